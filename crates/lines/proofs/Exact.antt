-- The bounds of a line are met exactly by the times that keep it.
use Rattle.std.proofs.Common.{◌≡◌, ℕ, ◌≤◌, List, [], ◌∷◌, ℤ, pos, negsuc, nat_abs, ◌≤ℤ◌, sym, refl, ap, ◌∙◌, subst, arith, lit<}
use Rattle.std.proofs.ByRecursion.{all-has}
use Rattle.std.proofs.lemmas.Int.{ints}
use Rattle.lines.specs.declared.line.Line.{Line}
use Rattle.lines.specs.declared.line.Right.{Right}
use Rattle.lines.specs.declared.line.Right.TheVariants.{Device, Constant}
use Rattle.lines.specs.declared.operator.Operator.{Operator}
use Rattle.lines.specs.declared.operator.Operator.TheVariants.{Before, NotAfter, With, NotBefore, After}
use Rattle.lines.specs.Bounding.{Weighs, base_of, number_of, weight_of, weight_by, edges_of, edges_by}
use Rattle.lines.specs.Keeping.{Compares, right_time}
use Rattle.lines.specs.Proper.{Within}
use Rattle.bounds.specs.Bounds.{Bound, Times, asked, Meets, bounds, times_of, largest}
use Rattle.scales.proofs.Lawful.{Laws}
use Rattle.scales.proofs.Order as order
use Rattle.scales.proofs.Readings.{reading_zero}
use Rattle.scales.specs.Order as times
use Rattle.scales.specs.declared.sums.OrderedSums.{Ghosts}

abs_within : (c : ℤ) → negsuc 999999 ≤ℤ c → c ≤ℤ pos 1000000 → nat_abs c ≤ 1000000
abs_within (pos c) g h = omega (arith, ints)
abs_within (negsuc c) g h = omega (arith, ints)

module _ {S : Type 0} (m : Ghosts S) (laws : Laws m) where
  open m use {Time, plus, opposed, step, reading}

  abbrev Le : Time → Time → Type 0
  Le x y = times.NotAfter m x y

  -- a summand goes over as its opposite
  less_to : (a c b : Time) → Le (plus a (opposed c)) b → Le a (plus b c)
  less_to a c b h = order.along m laws (order.less_add m laws a c) refl (laws.shifted _ _ c h)

  to_less : (a c b : Time) → Le a (plus b c) → Le (plus a (opposed c)) b
  to_less a c b h = order.along m laws refl (order.add_less m laws b c) (laws.shifted _ _ (opposed c) h)

  -- the right side of a line, counted from its base
  right_is : (n : ℕ) (t : Times m) (r : Right) → t n ≡ m.zero → plus (t (base_of n r)) (reading (number_of r)) ≡ right_time m t r
  right_is n t (Device y) o = ap (plus (t y)) (reading_zero m laws) ∙ laws.neutral (t y)
  right_is n t (Constant c) o = ap (λ z. plus z (reading c)) o ∙ order.zero_add m laws (reading c)

  -- one bound, and two
  meets_one : (t : Times m) (b : Bound Time) → Meets m (b ∷ []) t → Le (asked m t b) (t b.at)
  meets_one t b h = h b (0, lit< tt, λ d. refl)

  one_meets : (t : Times m) (b : Bound Time) → Le (asked m t b) (t b.at) → Meets m (b ∷ []) t
  one_meets t b h c has = all-has (λ d. Le (asked m t d) (t d.at)) (b ∷ []) c (h, tt) has

  meets_second : (t : Times m) (b c : Bound Time) → Meets m (b ∷ c ∷ []) t → Le (asked m t c) (t c.at)
  meets_second t b c h = h c (1, lit< tt, λ d. refl)

  two_meet : (t : Times m) (b c : Bound Time) → Le (asked m t b) (t b.at) → Le (asked m t c) (t c.at) → Meets m (b ∷ c ∷ []) t
  two_meet t b c g h d has = all-has (λ e. Le (asked m t e) (t e.at)) (b ∷ c ∷ []) d (g, (h, tt)) has

  -- each holds exactly when the other does
  abbrev Exactly : Type 0 → Type 0 → Type 0
  Exactly P Q = (P → Q) × (Q → P)

  module _ (n k : ℕ) (weights : List S) (t : Times m) (origin : t n ≡ m.zero) (x : ℕ) (r : Right) where
    abbrev a : Time
    a = t x

    abbrev b : Time
    b = t (base_of n r)

    abbrev c : Time
    c = reading (number_of r)

    by_operator : (o : Operator) → times_of m weights k ≡ weight_by m o c → Exactly (Meets m (bounds m weights (edges_by o n k (record { x = x; op = o; right = r }))) t) (Compares m o a (plus b c))
    by_operator Before e = (
      (λ h. order.before_step m laws a (plus b c) (less_to (plus a step) c b (order.along m laws (ap (plus a) e ∙ sym (laws.associative a step (opposed c))) refl (meets_one t _ h)))),
      (λ h. one_meets t _ (order.along m laws (laws.associative a step (opposed c) ∙ ap (plus a) (sym e)) refl (to_less (plus a step) c b (order.step_before m laws a (plus b c) h)))),
    )
    by_operator NotAfter e = (
      (λ h. less_to a c b (order.along m laws (ap (plus a) e) refl (meets_one t _ h))),
      (λ h. one_meets t _ (order.along m laws (ap (plus a) (sym e)) refl (to_less a c b h))),
    )
    by_operator With e = (
      (λ h. laws.antisymmetric a (plus b c)
          (less_to a c b (order.along m laws (ap (λ z. plus a (opposed z)) e) refl (meets_second t _ _ h)))
          (order.along m laws (ap (plus b) e) refl (h _ (0, lit< tt, λ d. refl)))),
      (λ h. two_meet t _ _
          (order.along m laws (ap (plus b) (sym e)) refl (order.same m laws (sym h)))
          (order.along m laws (ap (λ z. plus a (opposed z)) (sym e)) refl (to_less a c b (order.same m laws h)))),
    )
    by_operator NotBefore e = (
      (λ h. order.along m laws (ap (plus b) e) refl (meets_one t _ h)),
      (λ h. one_meets t _ (order.along m laws (ap (plus b) (sym e)) refl h)),
    )
    by_operator After e = (
      (λ h. order.before_step m laws (plus b c) a (order.along m laws (ap (plus b) e ∙ sym (laws.associative b c step)) refl (meets_one t _ h))),
      (λ h. one_meets t _ (order.along m laws (laws.associative b c step ∙ ap (plus b) (sym e)) refl (order.step_before m laws (plus b c) a h))),
    )

  pub number_small : (r : Right) → Within r → m.size (reading (number_of r)) ≤ 1000050
  number_small (Device y) h = omega (arith, laws.near (pos 0))
  number_small (Constant c) h = omega (arith, laws.near c, abs_within c h.0 h.1)

  weight_small : (o : Operator) (c : Time) → m.size c ≤ 1000050 → m.size (weight_by m o c) ≤ largest
  weight_small Before c h = omega (arith, laws.subadditive step (opposed c), laws.mirrored c, laws.fine)
  weight_small NotAfter c h = omega (arith, laws.mirrored c)
  weight_small With c h = omega arith
  weight_small NotBefore c h = omega arith
  weight_small After c h = omega (arith, laws.subadditive c step, laws.fine)

  pub weighs : (l : Line) (w : Time) → Within l.right → w ≡ weight_of m l → Weighs m l w
  weighs l w h e = record {
    is = e;
    small = subst (λ z. m.size z ≤ largest) (sym e) (weight_small l.op _ (number_small l.right h));
    exact = λ n k weights t at origin.
        subst (λ z. Exactly (Meets m (bounds m weights (edges_of n k l)) t) (Compares m l.op (t l.x) z)) (right_is n t l.right origin)
        (by_operator n k weights t origin l.x l.right l.op (at ∙ e));
  }
