-- What can be made of solutions: the earlier and the later of two, a shift, and the mirror image.
use Rattle.std.proofs.Common.{◌≡◌, ℕ, false, T, List, map, sym, refl, ap, ◌∙◌, subst}
use Rattle.std.specs.List.{ContainsAt as Has}
use Rattle.std.proofs.lemmas.Bool.{cond_both}
use Rattle.scales.specs.declared.sums.OrderedSums.{Ghosts}
use Rattle.scales.specs.Order.{NotAfter}
use Rattle.scales.proofs.Lawful.{Laws}
use Rattle.scales.proofs.Order.{itself, along, swapped, to_right, weaken, zero_add}
use Rattle.bounds.specs.declared.edge.Edge.{Edge}
use Rattle.bounds.specs.Bounds.{Bound, Times, Meets, Solves, bound_of, bounds}
use Rattle.bounds.specs.Closure.{Closed, earlier, later}
use Rattle.bounds.specs.Mirror.{Mirrored, exchanged}
use Rattle.bounds.proofs.Grounds.{has_map, has_from_map}

module _ {S : Type 0} (m : Ghosts S) (laws : Laws m) where
  open m use {Time, plus, opposed, notafter}

  otherwise : (x y : Time) → notafter x y ≡ false → NotAfter m y x
  otherwise x y e = weaken m laws y x (λ h. subst T e h)

  earlier_first : (x y : Time) → NotAfter m (earlier m x y) x
  earlier_first x y = cond_both (notafter x y) x y (λ z. NotAfter m z x) (λ _. itself m laws x) (otherwise x y)

  earlier_second : (x y : Time) → NotAfter m (earlier m x y) y
  earlier_second x y = cond_both (notafter x y) x y (λ z. NotAfter m z y) (λ e. subst T (sym e) tt) (λ _. itself m laws y)

  later_first : (x y : Time) → NotAfter m x (later m x y)
  later_first x y = cond_both (notafter x y) y x (λ z. NotAfter m x z) (λ e. subst T (sym e) tt) (λ _. itself m laws x)

  later_second : (x y : Time) → NotAfter m y (later m x y)
  later_second x y = cond_both (notafter x y) y x (λ z. NotAfter m y z) (λ _. itself m laws y) (otherwise x y)

  module _ (n : ℕ) (bs : List (Bound m.Time)) (s t : Times m) (left : Solves m n bs s) (right : Solves m n bs t) where
    under : Solves m n bs (λ x. earlier m (s x) (t x))
    under = record {
      meets = λ b has.
          let f : ℕ = b.from in
          cond_both (notafter (s b.at) (t b.at)) (s b.at) (t b.at) (NotAfter m (plus (earlier m (s f) (t f)) b.by))
          (λ _. laws.transitive _ _ _ (laws.shifted _ _ b.by (earlier_first (s f) (t f))) (left.meets b has))
          (λ _. laws.transitive _ _ _ (laws.shifted _ _ b.by (earlier_second (s f) (t f))) (right.meets b has));
      origin = cond_both (notafter (s n) (t n)) (s n) (t n) (λ z. z ≡ m.zero) (λ _. left.origin) (λ _. right.origin);
    }

    over : Solves m n bs (λ x. later m (s x) (t x))
    over = record {
      meets = λ b has.
          let a : ℕ = b.at in
          cond_both (notafter (s b.from) (t b.from)) (t b.from) (s b.from) (λ z. NotAfter m (plus z b.by) (later m (s a) (t a)))
          (λ _. laws.transitive _ _ _ (right.meets b has) (later_second (s a) (t a)))
          (λ _. laws.transitive _ _ _ (left.meets b has) (later_first (s a) (t a)));
      origin = cond_both (notafter (s n) (t n)) (t n) (s n) (λ z. z ≡ m.zero) (λ _. right.origin) (λ _. left.origin);
    }

  pub moved : (bs : List (Bound m.Time)) (t : Times m) (d : Time) → Meets m bs t → Meets m bs (λ x. plus (t x) d)
  moved bs t d meets b has = along m laws (swapped m laws _ b.by d) refl (laws.shifted _ _ d (meets b has))

  pub closed : Closed m
  closed = record {
    under = under;
    over = over;
    moved = moved;
    part = λ n bs cs t part solves. record { meets = λ b has. solves.meets b (part b has); origin = solves.origin };
  }

  -- a bound between opposites goes the other way
  turned : (x w y : Time) → NotAfter m (plus x w) y → NotAfter m (plus (opposed y) w) (opposed x)
  turned x w y h =
      along m laws
      (laws.commutative w (opposed y))
      (swapped m laws y (opposed x) (opposed y) ∙ ap (λ z. plus z (opposed x)) (laws.inverse y) ∙ zero_add m laws (opposed x))
      (laws.shifted _ _ (opposed y) (to_right m laws w x y (along m laws (laws.commutative x w) refl h)))

  turned_solves : (n : ℕ) (weights : List S) (es fs : List Edge) (t : Times m) → ((e : Edge) → Has fs e → Has es (exchanged e)) → Solves m n (bounds m weights es) t → Solves m n (bounds m weights fs) (λ x. opposed (t x))
  turned_solves n weights es fs t there solves = record {
    meets = λ b has.
        let from = has_from_map (bound_of m weights) fs b has in
        let e : Edge = from.0 in
        let met = solves.meets (bound_of m weights (exchanged e)) (has_map (bound_of m weights) es (exchanged e) (there e from.1)) in
        subst (λ c. NotAfter m (plus (opposed (t c.from)) c.by) (opposed (t c.at))) from.2 (turned _ _ _ met);
    origin = ap opposed solves.origin ∙ sym (zero_add m laws _) ∙ laws.inverse m.zero;
  }

  pub mirrored : Mirrored m
  mirrored n weights es t = (
    turned_solves n weights es (map exchanged es) t (λ e has. let from = has_from_map exchanged es e has in subst (λ f. Has es (exchanged f)) from.2 from.1),
    turned_solves n weights (map exchanged es) es t (λ e has. has_map exchanged es e has),
  )
