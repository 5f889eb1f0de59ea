-- Moving some times down together, as far as one likes.
use Rattle.std.proofs.Common.{◌≡◌, Bool, true, false, cond, T, sym, refl, ⊎_elim}
use Rattle.scales.specs.declared.sums.OrderedSums.{Ghosts}
use Rattle.scales.specs.Order.{NotAfter, Before}
use Rattle.scales.proofs.Lawful.{Laws}
use Rattle.scales.proofs.Order.{gap, itself, along, weaken, less_add, swapped, to_left, before_step}
use Rattle.bounds.proofs.Walks.{grown}

-- v less d where a test passes
abbrev less_where : {S : Type 0} (m : Ghosts S) → m.Time → Bool → m.Time → m.Time
less_where m d b v = cond b (gap m v d) v

module _ {S : Type 0} (m : Ghosts S) (laws : Laws m) where
  open m use {Time, plus}

  -- a step past e, which is not less than the way from w up to v
  step_past : (v w e : Time) → NotAfter m m.zero e → NotAfter m (gap m v w) e → (d : Time) × NotAfter m m.zero d × Before m (gap m v d) w
  step_past v w e up over =
      let d : Time = plus e m.step in
      let reach : NotAfter m v (plus w e) = along m laws (less_add m laws v w) (laws.commutative e w) (laws.shifted _ _ w over) in (
        d,
        laws.transitive _ _ _ up (grown m laws e m.step (weaken m laws _ _ laws.positive)),
        λ back. before_step m laws (plus w e) (plus w e)
            (along m laws (sym (laws.associative w e m.step)) refl (laws.transitive _ _ _ (to_left m laws w d v back) reach))
            (itself m laws _),
      )

  -- a way down that takes v below w
  pub way_down : (v w : Time) → (d : Time) × NotAfter m m.zero d × Before m (gap m v d) w
  way_down v w =
      ⊎_elim
      (λ up. step_past v w (gap m v w) up (itself m laws _))
      (λ down. step_past v w m.zero (itself m laws _) down)
      (laws.total m.zero (gap m v w))

  pub lowered_passes : (d v : Time) (b : Bool) → T b → less_where m d b v ≡ gap m v d
  lowered_passes d v true h = refl
  lowered_passes d v false h = absurd h

  pub lowered_fails : (d v : Time) (b : Bool) → (T b → ⊥) → less_where m d b v ≡ v
  lowered_fails d v true h = absurd (h tt)
  lowered_fails d v false h = refl

  -- a bound stays met where both of its ends are lowered, or not its `at`
  pub lowered_meets : (d v by w : Time) (p q : Bool) → NotAfter m m.zero d → ((T p → ⊥) → T q → ⊥) → NotAfter m (plus v by) w → NotAfter m (plus (less_where m d p v) by) (less_where m d q w)
  lowered_meets d v by w true true up ok h = along m laws (swapped m laws v by (m.opposed d)) refl (laws.shifted _ _ (m.opposed d) h)
  lowered_meets d v by w true false up ok h =
      laws.transitive _ _ _ (laws.shifted _ _ by (along m laws refl (less_add m laws v d) (grown m laws (gap m v d) d up))) h
  lowered_meets d v by w false true up ok h = absurd (ok (λ x. x) tt)
  lowered_meets d v by w false false up ok h = h
