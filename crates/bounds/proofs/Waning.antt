-- Why rounds of bounds that can be met come to rest: each round that changes a time leaves fewer places that can still change.
use Rattle.std.proofs.Common.{◌≡◌, ℕ, suc, ◌+◌, ◌<◌, ◌≤◌, Bool, true, not, T, List, sym, refl, ap, ◌∙◌, ⊎_elim, arith, T_not}
use lib.Dec.{not_T}
use Rattle.scales.specs.declared.sums.OrderedSums.{Ghosts}
use Rattle.scales.specs.Order.{NotAfter, Before}
use Rattle.scales.proofs.Lawful.{Laws}
use Rattle.scales.proofs.Order.{gap, itself, same, along, swapped, from_cross, gap_falls, gap_rises}
use Rattle.bounds.specs.Bounds.{Bound, Times, Meets}
use Rattle.bounds.specs.Rounds.{Round, Changed}
use Rattle.bounds.proofs.Counts.{count, count_all, count_lt}
use Rattle.bounds.proofs.Grounds.{AllGrounded}
use Rattle.bounds.proofs.Picks.{Pick, pick}

-- after r rounds that each changed a time and took the times to t: of k places only those left can have a wider gap to s than
-- a place that the next round changes
pub record Waning {S : Type 0} (m : Ghosts S) (bs : List (Bound m.Time)) (k r : ℕ) (t s : Times m) : Type 0 where
  pub left : ℕ → Bool
  pub few : count left k + r ≤ k
  pub wide : (u : Times m) → Round m bs t u → (x y : ℕ) → Before m (t x) (u x) → Before m (gap m (s x) (u x)) (gap m (s y) (t y)) → T (left y)

pub waning_none : {S : Type 0} (m : Ghosts S) (bs : List (Bound m.Time)) (k : ℕ) (t s : Times m) → Waning m bs k 0 t s
waning_none m bs k t s = record { left = λ _. true; few = omega (arith, count_all k); wide = λ u round x y c w. tt }

module _ {S : Type 0} (m : Ghosts S) (laws : Laws m) (n : ℕ) (bs : List (Bound m.Time)) (grounded : AllGrounded m n bs) where
  -- along a bound that is met the gap does not narrow
  gap_step : (a t w b : m.Time) → NotAfter m (m.plus a w) b → NotAfter m (gap m a t) (gap m b (m.plus t w))
  gap_step a t w b h =
      from_cross m laws a t b (m.plus t w) (along m laws (swapped m laws a w t ∙ laws.associative a t w) refl (laws.shifted _ _ t h))

  -- a place that a round changes: the place that caused it had changed in the round before, and its gap was no wider
  caused : (t u v s : Times m) → Meets m bs s → Round m bs t u → Round m bs u v → (x : ℕ) → Before m (u x) (v x) → (z : ℕ) × (z < n + 1) × Before m (t z) (u z) × NotAfter m (gap m (s z) (u z)) (gap m (s x) (v x))
  caused t u v s meets before round x later =
      ⊎_elim
      (λ e. absurd (later (same m laws e)))
      (λ c.
      let b : Bound m.Time = c.bound in
      let z : ℕ = b.from in
      let at' : v x ≡ m.plus (u z) b.by = c.value in
      let changed : Before m (t z) (u z) =
      λ back. later (along m laws (sym at') (ap u (sym c.place)) (laws.transitive _ _ _ (laws.shifted (u z) (t z) b.by back) (before.held b c.has)))
      in
      let asks : NotAfter m (m.plus (s z) b.by) (s x) = along m laws refl (ap s (sym c.place)) (meets b c.has) in
      (z, omega (arith, (grounded b c.has).from_in), changed, along m laws refl (ap (gap m (s x)) (sym at')) (gap_step (s z) (u z) b.by (s x) asks)))
      (round.why x)

  module _ (t u s : Times m) (meets : Meets m bs s) (round : Round m bs t u) where
    altered : ℕ → Bool
    altered x = not (m.notafter (u x) (t x))

    rest : ℕ → m.Time
    rest x = gap m (s x) (u x)

    wider : ℕ → ℕ → Bool
    wider x y = not (m.notafter (rest y) (rest x))

    pub waning_more : (r : ℕ) → Changed m (n + 1) t u → Waning m bs (n + 1) r t s → Waning m bs (n + 1) (suc r) u s
    unfolding altered rest wider
    waning_more r change w =
        ⊎_elim
        (λ none. absurd (none change.place change.within (not_T _ change.later)))
        (λ (l : Pick m altered rest (n + 1)).
        let x : ℕ = l.place in
        let later : Before m (t x) (u x) = T_not _ l.passes in
        let fell : (y : ℕ) → NotAfter m (rest y) (gap m (s y) (t y)) = λ y. gap_falls m laws (s y) (t y) (u y) (round.up y) in
        let shrinks : count (wider x) (n + 1) < count w.left (n + 1) =
        count_lt (wider x) w.left (n + 1) x
        (λ y b p. w.wide u round x y later (λ le. T_not _ p (laws.transitive _ _ _ (fell y) le)))
        l.within
        (λ p. T_not _ p (itself m laws _))
        (w.wide u round x x later (λ le. later (gap_rises m laws (s x) (t x) (u x) le)))
        in
        record {
          left = wider x;
          few = omega (arith, shrinks, w.few);
          wide = λ v next a y after wide.
              let from = caused t u v s meets round next a after in
              not_T _ (λ le. wide (laws.transitive _ _ _ le (laws.transitive _ _ _ (l.least from.0 from.1 (not_T _ from.2)) from.3)));
        })
        (pick m laws altered rest (n + 1))
