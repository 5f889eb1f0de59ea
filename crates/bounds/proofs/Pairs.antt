-- Two rows side by side.
use Rattle.std.proofs.Common.{◌≡◌, ℕ, zero, suc, ◌<◌, Bool, true, false, List, [], ◌∷◌, length, arith}
use Rattle.std.specs.List.{zip, AllWithin, HoldsAt}
use Rattle.std.specs.Bool.{MatchBool}
use Rattle.scales.specs.declared.sums.OrderedSums.{Ghosts}
use Rattle.scales.specs.Order.{NotAfter, Before}
use Rattle.bounds.specs.Bounds.{times_of}
use Rattle.bounds.specs.Rounds.{Compared}

module _ {S : Type 0} (m : Ghosts S) where
  -- of a pair of values, an old one and a new one: the new time is not after the old one, or it is
  abbrev pub Kept : S × S → Type 0
  Kept p = NotAfter m (m.means p.1) (m.means p.0)

  abbrev pub Risen : S × S → Type 0
  Risen p = Before m (m.means p.0) (m.means p.1)

  kept_everywhere : (old new : List S) → length new ≡ length old → AllWithin Kept (zip old new) 0 (length (zip old new)) → (x : ℕ) → x < length old → NotAfter m (times_of m new x) (times_of m old x)
  kept_everywhere [] new e kept x h = absurd (omega arith)
  kept_everywhere (a ∷ old) [] e kept x h = absurd (omega arith)
  kept_everywhere (a ∷ old) (b ∷ new) e kept zero h = kept 0 (a, b) (omega arith) (omega arith)
  kept_everywhere (a ∷ old) (b ∷ new) e kept (suc x) h =
      kept_everywhere old new (omega arith) (λ k d low high. kept (suc k) d (omega arith) (omega arith)) x (omega arith)

  risen_somewhere : (old new : List S) (k : ℕ) → k < length (zip old new) → HoldsAt Risen (zip old new) k → (k < length old) × Before m (times_of m old k) (times_of m new k)
  risen_somewhere [] new k h risen = absurd (omega arith)
  risen_somewhere (a ∷ old) [] k h risen = absurd (omega arith)
  risen_somewhere (a ∷ old) (b ∷ new) zero h risen = (omega arith, risen (a, b))
  risen_somewhere (a ∷ old) (b ∷ new) (suc k) h risen = let rest = risen_somewhere old new k (omega arith) risen in (omega (arith, rest.0), rest.1)

  -- what is told of the values pair by pair is told of their times
  pub compared : (old new : List S) (r : Bool) → length new ≡ length old
      → MatchBool r (AllWithin Kept (zip old new) 0 (length (zip old new))) ((k : ℕ) × (k < length (zip old new)) × HoldsAt Risen (zip old new) k)
      → Compared m (length old) (times_of m old) (times_of m new) r
  compared old new true e all = kept_everywhere old new e all
  compared old new false e some = let one = risen_somewhere old new some.0 some.1 some.2 in record { place = some.0; within = one.0; later = one.1 }
