-- Readings of whole numbers.
use Rattle.std.proofs.Common.{◌≡◌, ℕ, ◌≤◌, ℤ, pos, neg_ℤ, ◌≤ℤ◌, sym, ap, ◌∙◌, arith}
use Rattle.std.proofs.lemmas.Int.{ints, by_lt_z}
use Rattle.scales.specs.declared.sums.OrderedSums.{Ghosts}
use Rattle.scales.specs.Order.{NotAfter}
use Rattle.scales.proofs.Lawful.{Laws}
use Rattle.scales.proofs.Order.{same, weaken, add_less}

module _ {S : Type 0} (m : Ghosts S) (laws : Laws m) where
  open m use {Time, plus, opposed, reading}

  pub reading_zero : reading (pos 0) ≡ m.zero
  reading_zero =
      let a : Time = reading (pos 0) in
      let twice : a ≡ plus a a = laws.additive (pos 0) (pos 0) in
      sym (add_less m laws a a) ∙ ap (λ z. plus z (opposed a)) (sym twice) ∙ laws.inverse a

  pub reading_mono : (a b : ℤ) → a ≤ℤ b → NotAfter m (reading a) (reading b)
  reading_mono a b h =
      by_lt_z a b
      (λ lt. weaken m laws _ _ (laws.increasing a b lt))
      (λ ge. let e : a ≡ b = omega (arith, ints) in same m laws (ap reading e))

  -- a time of at most the size k lies between the readings of -k and k
  pub under_reading : (x : Time) (k : ℕ) → m.size x ≤ k → NotAfter m x (reading (pos k))
  under_reading x k h = laws.transitive _ _ _ (laws.enclosed x).1 (reading_mono _ _ (omega (arith, ints)))

  pub over_reading : (x : Time) (k : ℕ) → m.size x ≤ k → NotAfter m (reading (neg_ℤ (pos k))) x
  over_reading x k h = laws.transitive _ _ _ (reading_mono _ _ (omega (arith, ints))) (laws.enclosed x).0
