-- Rows of values, and the times that they mean.
use Rattle.std.proofs.Common.{◌≡◌, ℕ, zero, suc, ◌<◌, true, false, T, ◌≢◌, List, [], ◌∷◌, map, length, get_or, set, sym, refl, ap, ◌∙◌, subst, inl, inr, ⊎_elim, arith}
use Rattle.std.specs.List.{FoldsTo}
use Rattle.std.proofs.lemmas.List.{get_or-map, map-set, get_or-set_same, get_or-set_other, length-map}
use Rattle.std.proofs.lemmas.Bool.{cases_eq}
use Rattle.scales.specs.declared.sums.OrderedSums.{Ghosts}
use Rattle.scales.specs.Order.{NotAfter, Before}
use Rattle.scales.proofs.Lawful.{Laws}
use Rattle.scales.proofs.Order.{same, along, weaken}
use Rattle.bounds.specs.Bounds.{Bound, times_of, asked}
use Rattle.bounds.specs.Rounds.{Raised}

module _ {S : Type 0} (m : Ghosts S) where
  -- what a test of two times said
  pub passed : (x y : m.Time) → true ≡ m.notafter x y → NotAfter m x y
  passed x y e = subst T e tt

  pub failed : (x y : m.Time) → false ≡ m.notafter x y → Before m y x
  failed x y e h = subst T (sym e) h

  -- a value that was read
  pub times_read : (row : List S) (x : ℕ) (v : S) → x < length row → v ≡ get_or row x v → times_of m row x ≡ m.means v
  times_read row x v l e = get_or-map m.means row x v m.zero l ∙ ap m.means (sym e)

  pub times_set_same : (row : List S) (i : ℕ) (v : S) → i < length row → times_of m (set row i v) i ≡ m.means v
  times_set_same row i v l =
      let in' : i < length (map m.means row) = omega (arith, length-map row m.means) in
      ap (λ ts. get_or ts i m.zero) (map-set m.means row i v) ∙ get_or-set_same (map m.means row) i (m.means v) m.zero in'

  pub times_set_other : (row : List S) (i x : ℕ) (v : S) → x ≢ i → times_of m (set row i v) x ≡ times_of m row x
  times_set_other row i x v ne =
      ap (λ ts. get_or ts x m.zero) (map-set m.means row i v) ∙ get_or-set_other (map m.means row) i x (m.means v) m.zero ne

  -- a row that a closure filled, which gave a value of the same time at each call, and stayed as it was
  pub filled : {P : Type 0} (R : P → S → P → Type 0) (t : m.Time) (f : P) → ((y : S) (q : P) → R f y q → (q ≡ f) × (m.means y ≡ t)) → (row : List S) (p last : P) → p ≡ f → FoldsTo R p row last → (x : ℕ) → x < length row → times_of m row x ≡ t
  filled R t f step [] p last e ran x h = absurd (omega arith)
  filled R t f step (y ∷ row) p last e ran zero h = (step y ran.0 (subst (λ s. R s y ran.0) e ran.1)).1
  filled R t f step (y ∷ row) p last e ran (suc x) h =
      filled R t f step row ran.0 last (step y ran.0 (subst (λ s. R s y ran.0) e ran.1)).0 ran.2 x (omega arith)

  module _ (laws : Laws m) (b : Bound m.Time) (old before : List S) where
    -- what it asks for is written
    pub raised_set : (v : S) → b.at < length before → m.means v ≡ asked m (times_of m old) b → Before m (times_of m before b.at) (m.means v) → Raised m b old before (set before b.at v)
    raised_set v l e more =
        let here = times_set_same before b.at v l in
        let there = λ (x : ℕ) (ne : x ≢ b.at). times_set_other before b.at x v ne in
        record {
          up = λ x. ⊎_elim
              (λ (is : x ≡ b.at). let up_at : NotAfter m (times_of m before b.at) (times_of m (set before b.at v) b.at) = along m laws refl (sym here) (weaken m laws _ _ more) in subst (λ y. NotAfter m (times_of m before y) (times_of m (set before b.at v) y)) (sym is) up_at)
              (λ ne. same m laws (sym (there x ne)))
              (cases_eq x b.at);
          held = same m laws (sym e ∙ sym here);
          why = λ x. ⊎_elim
              (λ (is : x ≡ b.at). inr (is, ap (times_of m (set before b.at v)) is ∙ here ∙ e))
              (λ ne. inl (there x ne))
              (cases_eq x b.at);
        }
