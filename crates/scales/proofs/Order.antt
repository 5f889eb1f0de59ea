-- The order of times, and differences of times.
use Rattle.std.proofs.Common.{◌≡◌, Bool, true, false, T, ◌⊎◌, sym, refl, ap, ◌∙◌, subst, inl, inr, ⊎_elim}
use Rattle.scales.specs.declared.sums.OrderedSums.{Ghosts}
use Rattle.scales.specs.Order.{NotAfter, Before}
use Rattle.scales.proofs.Lawful.{Laws}

-- s less t
abbrev pub gap : {S : Type 0} (m : Ghosts S) → m.Time → m.Time → m.Time
gap m s t = m.plus s (m.opposed t)

decide : (b : Bool) → T b ⊎ (T b → ⊥)
decide true = inl tt
decide false = inr (λ h. h)

module _ {S : Type 0} (m : Ghosts S) where
  pub either : (x y : m.Time) → NotAfter m x y ⊎ Before m y x
  either x y = decide (m.notafter x y)

module _ {S : Type 0} (m : Ghosts S) (laws : Laws m) where
  open m use {Time, plus, opposed, zero, step}

  pub itself : (x : Time) → NotAfter m x x
  itself x = ⊎_elim (λ h. h) (λ h. h) (laws.total x x)

  pub same : {x y : Time} → x ≡ y → NotAfter m x y
  same {x} e = subst (λ z. NotAfter m x z) e (itself x)

  -- along two equations
  pub along : {x y a b : Time} → x ≡ a → y ≡ b → NotAfter m x y → NotAfter m a b
  along {y = y} {a = a} p q h = subst (λ z. NotAfter m a z) q (subst (λ z. NotAfter m z y) p h)

  -- what is before is not after
  pub weaken : (x y : Time) → Before m x y → NotAfter m x y
  weaken x y h = ⊎_elim (λ l. l) (λ l. absurd (h l)) (laws.total x y)

  pub before_then : (x y z : Time) → Before m x y → NotAfter m y z → Before m x z
  before_then x y z h k back = h (laws.transitive y z x k back)

  pub then_before : (x y z : Time) → NotAfter m x y → Before m y z → Before m x z
  then_before x y z h k back = k (laws.transitive z x y back h)

  pub add_less : (x z : Time) → plus (plus x z) (opposed z) ≡ x
  add_less x z = laws.associative x z (opposed z) ∙ ap (plus x) (laws.inverse z) ∙ laws.neutral x

  pub less_add : (x z : Time) → plus (plus x (opposed z)) z ≡ x
  less_add x z = laws.associative x (opposed z) z ∙ ap (plus x) (laws.commutative (opposed z) z ∙ laws.inverse z) ∙ laws.neutral x

  pub zero_add : (x : Time) → plus zero x ≡ x
  zero_add x = laws.commutative zero x ∙ laws.neutral x

  pub swapped : (x y z : Time) → plus (plus x y) z ≡ plus (plus x z) y
  swapped x y z = laws.associative x y z ∙ ap (plus x) (laws.commutative y z) ∙ sym (laws.associative x z y)

  -- what is added on both sides can be taken off
  pub unshifted : (x y z : Time) → NotAfter m (plus x z) (plus y z) → NotAfter m x y
  unshifted x y z h = along (add_less x z) (add_less y z) (laws.shifted _ _ (opposed z) h)

  pub shifted_before : (x y z : Time) → Before m x y → Before m (plus x z) (plus y z)
  shifted_before x y z h back = h (unshifted y x z back)

  pub sum_mono : (a b c d : Time) → NotAfter m a b → NotAfter m c d → NotAfter m (plus a c) (plus b d)
  sum_mono a b c d h k = laws.transitive _ _ _ (laws.shifted a b c h) (along (laws.commutative c b) (laws.commutative d b) (laws.shifted c d b k))

  -- a summand goes to the other side as its opposite
  pub to_right : (x z y : Time) → NotAfter m (plus x z) y → NotAfter m x (gap m y z)
  to_right x z y h = along (add_less x z) refl (laws.shifted _ _ (opposed z) h)

  pub to_left : (x z y : Time) → NotAfter m x (gap m y z) → NotAfter m (plus x z) y
  to_left x z y h = along refl (less_add y z) (laws.shifted _ _ z h)

  pub opposed_opposed : (x : Time) → opposed (opposed x) ≡ x
  opposed_opposed x = sym (zero_add _) ∙ ap (λ z. plus z (opposed (opposed x))) (sym (laws.inverse x)) ∙ add_less x (opposed x)

  pub from_cross : (a t b u : Time) → NotAfter m (plus a u) (plus b t) → NotAfter m (gap m a t) (gap m b u)
  from_cross a t b u h =
      let one : NotAfter m a (plus (plus b t) (opposed u)) = to_right a u (plus b t) h in
      let back : plus (plus (plus b t) (opposed u)) (opposed t) ≡ plus b (opposed u) = ap (λ z. plus z (opposed t)) (swapped b t (opposed u)) ∙ add_less _ t in
      along refl back (laws.shifted _ _ (opposed t) one)

  pub to_cross : (a t b u : Time) → NotAfter m (gap m a t) (gap m b u) → NotAfter m (plus a u) (plus b t)
  to_cross a t b u h =
      let one : NotAfter m a (plus (plus b (opposed u)) t) = along (less_add a t) refl (laws.shifted _ _ t h) in
      let back : plus (plus (plus b (opposed u)) t) u ≡ plus b t = swapped _ t u ∙ ap (λ z. plus z t) (less_add b u) in
      along refl back (laws.shifted _ _ u one)

  -- a later time leaves less
  pub gap_falls : (s t u : Time) → NotAfter m t u → NotAfter m (gap m s u) (gap m s t)
  gap_falls s t u h = from_cross s u s t (along (laws.commutative t s) (laws.commutative u s) (laws.shifted _ _ s h))

  pub gap_rises : (s t u : Time) → NotAfter m (gap m s t) (gap m s u) → NotAfter m u t
  gap_rises s t u h = unshifted u t s (along (laws.commutative s u) (laws.commutative s t) (to_cross s t s u h))

  -- opposites turn the order round
  pub opposed_falls : (x y : Time) → NotAfter m x y → NotAfter m (opposed y) (opposed x)
  opposed_falls x y h = along (zero_add _) (zero_add _) (gap_falls zero x y h)

  -- strictness is one step
  pub step_before : (x y : Time) → Before m x y → NotAfter m (plus x step) y
  step_before x y h =
      ⊎_elim
      (λ le. absurd (h (along (less_add y x) (zero_add x) (laws.shifted _ _ x le))))
      (λ le. along (laws.commutative step x) refl (to_left step x y le))
      (laws.discrete (gap m y x))

  pub before_step : (x y : Time) → NotAfter m (plus x step) y → Before m x y
  before_step x y h back =
      laws.positive (along (add_less step x) (laws.inverse x) (laws.shifted _ _ (opposed x) (along (laws.commutative x step) refl (laws.transitive _ _ _ h back))))
