-- The reading of a number far enough below zero is low.
use Rattle.std.proofs.Common.{◌≡◌, ℕ, zero, suc, ◌+◌, ◌*◌, ◌≤◌, pos, neg_ℤ, sym, refl, ap, ◌∙◌, arith}
use Rattle.std.proofs.lemmas.Int.{ints}
use Rattle.scales.specs.declared.sums.OrderedSums.{Ghosts}
use Rattle.scales.specs.Low.{walked, Low}
use Rattle.scales.proofs.Lawful.{Laws}
use Rattle.scales.proofs.Order.{along, zero_add, before_step, swapped, to_left}
use Rattle.scales.proofs.Readings.{reading_zero, reading_mono, under_reading, over_reading}

module _ {S : Type 0} (m : Ghosts S) (laws : Laws m) where
  open m use {Time, plus, opposed, reading}

  walked_size : (y : Time) (top k : ℕ) → m.size y ≤ top → m.size (walked m m.zero y k) ≤ k * top
  walked_size y top zero h = omega (arith, laws.sizeless)
  walked_size y top (suc k) h = omega (arith, walked_size y top k h, laws.subadditive (walked m m.zero y k) y)

  -- a walk from x is x and a walk from zero
  pub walked_from : (x y : Time) (k : ℕ) → walked m x y k ≡ plus (walked m m.zero y k) x
  walked_from x y zero = sym (zero_add m laws x)
  walked_from x y (suc k) = ap (λ z. plus z y) (walked_from x y k) ∙ swapped m laws _ x y

  pub low_reading : (most k depth : ℕ) → k * (most + 50) + 50 ≤ depth → Low m most k (reading (neg_ℤ (pos depth)))
  low_reading most k depth h =
      let stride : Time = reading (pos most) in
      let way : Time = walked m m.zero stride k in
      let floor : Time = reading (neg_ℤ (pos depth)) in
      let short : m.size way ≤ k * (most + 50) = walked_size stride (most + 50) k (laws.near (pos most)) in
      let up : Time = plus way m.step in
      let sized : m.size (opposed up) ≤ depth = omega (arith, laws.mirrored up, laws.subadditive way m.step, laws.fine, short) in
      record {
        stride = stride;
        rises = along m laws (reading_zero m laws) refl (reading_mono m laws (pos 0) (pos most) (omega (arith, ints)));
        longest = λ y small. under_reading m laws y most small;
        ends = before_step m laws _ _ (along m laws (laws.commutative floor up ∙ swapped m laws way m.step floor ∙ ap (λ z. plus z m.step) (sym (walked_from floor stride k))) refl
            (to_left m laws floor up m.zero (along m laws refl (sym (zero_add m laws (opposed up))) (over_reading m laws (opposed up) depth sized))));
      }
