-- Walks of equal strides, and low starts.
use Rattle.std.proofs.Common.{◌≡◌, ℕ, zero, suc, ◌+◌, ◌≤◌, sym, refl, ap, ◌∙◌, add-zero, add-suc}
use native.Mathlib.Decide.{le_ind}
use Rattle.scales.specs.declared.sums.OrderedSums.{Ghosts}
use Rattle.scales.specs.Low.{walked, Low}
use Rattle.scales.specs.Order.{NotAfter}
use Rattle.scales.proofs.Depth.{walked_from}
use Rattle.scales.proofs.Lawful.{Laws}
use Rattle.scales.proofs.Order.{itself, along, sum_mono, then_before}

module _ {S : Type 0} (m : Ghosts S) (laws : Laws m) where
  open m use {Time, plus}

  -- adding what is not below zero
  pub grown : (x y : Time) → NotAfter m m.zero y → NotAfter m x (plus x y)
  grown x y h = along m laws (laws.neutral x) refl (sum_mono m laws x x m.zero y (itself m laws x) h)

  pub walked_longer : (x y : Time) (j k : ℕ) → NotAfter m m.zero y → j ≤ k → NotAfter m (walked m x y j) (walked m x y k)
  walked_longer x y j k up = le_ind (λ i. NotAfter m (walked m x y j) (walked m x y i)) (itself m laws _) (λ i _ h. laws.transitive _ _ _ h (grown _ y up)) k

  -- what is added before the walk can be added behind it
  pub walked_plus : (x z y : Time) (k : ℕ) → walked m (plus x z) y k ≡ plus (walked m x y k) z
  walked_plus x z y k = walked_from m laws (plus x z) y k ∙ sym (laws.associative _ x z) ∙ ap (λ a. plus a z) (sym (walked_from m laws x y k))

  pub walked_mono : (x z y : Time) (k : ℕ) → NotAfter m x z → NotAfter m (walked m x y k) (walked m z y k)
  walked_mono x z y k h =
      let around = λ (a : Time). laws.commutative a (walked m m.zero y k) ∙ sym (walked_from m laws a y k) in
      along m laws (around x) (around z) (laws.shifted x z (walked m m.zero y k) h)

  -- two walks are one
  pub walked_both : (x z y : Time) (j k : ℕ) → plus (walked m x y j) (walked m z y k) ≡ walked m (plus x z) y (j + k)
  walked_both x z y j zero = sym (walked_plus x z y j) ∙ ap (walked m (plus x z) y) (sym (add-zero j))
  walked_both x z y j (suc k) =
      sym (laws.associative _ _ y) ∙ ap (λ a. plus a y) (walked_both x z y j k) ∙ ap (walked m (plus x z) y) (sym (add-suc j k))

  pub low_fewer : (most j k : ℕ) (x : Time) → j ≤ k → Low m most k x → Low m most j x
  low_fewer most j k x le low = record {
    stride = low.stride;
    rises = low.rises;
    longest = low.longest;
    ends = then_before m laws _ _ _ (walked_longer x low.stride j k low.rises le) low.ends;
  }
