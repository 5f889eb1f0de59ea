-- Which devices the bounds hold, after a search from a low start: the others can all be moved down together.
use Rattle.std.proofs.Common.{ℕ, suc, ◌+◌, ◌≤◌, T, List, sym, refl, ◌∙◌, arith, lit≤}
use Rattle.std.specs.List.{ContainsAt as Has}
use Rattle.scales.specs.declared.sums.OrderedSums.{Ghosts}
use Rattle.scales.specs.Low.{walked, Low}
use Rattle.scales.specs.Order.{NotAfter, Before}
use Rattle.scales.proofs.Lawful.{Laws}
use Rattle.scales.proofs.Order.{same, along, weaken, sum_mono, zero_add}
use Rattle.bounds.specs.Bounds.{Bound, Times, Solves, bounds, largest, strides}
use Rattle.bounds.specs.Least.{Least}
use Rattle.bounds.specs.Lowering.{held_by_start, lowered, Loose, Lowering}
use Rattle.bounds.specs.Reach.{Source, from_start, from_origin, Reached}
use Rattle.bounds.proofs.Grounds.{AllGrounded, ready_grounded}
use Rattle.bounds.proofs.Lowering.{way_down, lowered_passes, lowered_fails, lowered_meets}
use Rattle.bounds.proofs.Reaching.{reached_under, reached_low, reached_high, walked_on}
use Rattle.bounds.proofs.Walks.{walked_longer, walked_plus, walked_mono, walked_both}

module _ {S : Type 0} (m : Ghosts S) (laws : Laws m) (start : m.Time) (low : Low m largest strides start) where
  open m use {Time, plus}

  -- what a short walk from the start reaches is held by the start
  low_held : (v : Time) (k : ℕ) → k + k ≤ strides → NotAfter m v (walked m start low.stride k) → T (held_by_start m start v)
  low_held v k short h =
      let ends : NotAfter m (walked m start low.stride (k + k)) m.zero =
      laws.transitive _ _ _ (walked_longer m laws start low.stride (k + k) strides low.rises short) (weaken m laws _ _ low.ends) in
      laws.transitive _ _ _
      (along m laws refl (walked_both m laws start start low.stride k k ∙ walked_plus m laws start start low.stride (k + k)) (sum_mono m laws _ _ _ _ h h))
      (along m laws refl (zero_add m laws start) (laws.shifted _ _ start ends))

  -- what comes up to zero by a short walk is not
  high_not_held : (v : Time) (k : ℕ) → k + k ≤ strides → NotAfter m m.zero (walked m v low.stride k) → T (held_by_start m start v) → ⊥
  high_not_held v k short h down =
      low.ends
      (laws.transitive _ _ _
      (along m laws (laws.neutral m.zero) (walked_both m laws v v low.stride k k) (sum_mono m laws _ _ _ _ h h))
      (laws.transitive _ _ _ (walked_mono m laws (plus v v) start low.stride (k + k) down) (walked_longer m laws start low.stride (k + k) strides low.rises short)))

  module _ (n : ℕ) (few : n ≤ 200) (bs : List (Bound Time)) (grounded : AllGrounded m n bs) (t : Times m) (found : Least m n bs start t) where
    by_source : (x : ℕ) (v : Time) (o : Source) → Reached m bs n start o (n + 2) x v → (T (held_by_start m start v) → ⊥) → Reached m bs n start from_origin (n + 2) x v
    by_source x v from_start h far = absurd (far (low_held v (n + 2) (omega arith) (reached_low m laws n bs start grounded strides low h)))
    by_source x v from_origin h far = h

    -- a time that the start does not hold was reached from the origin
    held : (x : ℕ) → x ≤ n → (T (held_by_start m start (t x)) → ⊥) → Reached m bs n start from_origin (n + 2) x (t x)
    held x l = by_source x (t x) (found.reached x l).0 (found.reached x l).1

    -- so no solution comes before it
    pub held_least : (x : ℕ) → x ≤ n → (T (held_by_start m start (t x)) → ⊥) → (s : Times m) → Solves m n bs s → NotAfter m (t x) (s x)
    held_least x l far s solves = reached_under m laws n bs start s solves.meets (same m laws (sym solves.origin)) (held x l far)

    -- a bound from a device that is held holds its other end
    holds : (b : Bound Time) → Has bs b → (T (held_by_start m start (t b.from)) → ⊥) → T (held_by_start m start (t b.at)) → ⊥
    holds b has far =
        high_not_held (t b.at) (suc (n + 2)) (omega arith)
        (laws.transitive _ _ _ (reached_high m laws n bs start grounded strides low (held b.from (grounded b has).from_in far))
        (laws.transitive _ _ _ (walked_on m laws n bs start grounded strides low b has (t b.from) (n + 2)) (walked_mono m laws _ _ low.stride (suc (n + 2)) (found.solves.meets b has))))

    -- what the start holds can be lowered
    lower : (d : Time) → NotAfter m m.zero d → Solves m n bs (lowered m start d t)
    lower d up =
        let fixed : T (held_by_start m start (t n)) → ⊥ = high_not_held (t n) 0 (lit≤ tt) (same m laws (sym found.solves.origin)) in
        record {
          meets = λ b has. lowered_meets m laws d (t b.from) b.by (t b.at) (held_by_start m start (t b.from)) (held_by_start m start (t b.at)) up (holds b has) (found.solves.meets b has);
          origin = lowered_fails m laws d (t n) (held_by_start m start (t n)) fixed ∙ found.solves.origin;
        }

    pub loose : Loose m n bs start t
    loose = record {
      lower = lower;
      unlimited = λ x close v.
          let way = way_down m laws (t x) v in
          (way.0, way.1, λ back. way.2 (along m laws refl (lowered_passes m laws way.0 (t x) (held_by_start m start (t x)) close) back));
      firm = λ x l. held_least x (omega arith);
    }

    -- so some solution comes before any time that is asked for
    pub free : (x : ℕ) → T (held_by_start m start (t x)) → (v : Time) → (s : Times m) × Solves m n bs s × Before m (s x) v
    free x close v = let way = loose.unlimited x close v in (lowered m start way.0 t, loose.lower way.0 way.1, way.2)

pub lowering : {S : Type 0} (m : Ghosts S) → Laws m → Lowering m
lowering m laws n weights es start t few ready low found =
    loose m laws start low n few (bounds m weights es) (ready_grounded m laws n weights es ready) t found
