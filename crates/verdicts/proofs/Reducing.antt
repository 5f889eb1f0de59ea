-- Why a choice that was reduced number by number clashes with none too many.
use Rattle.std.proofs.Common.{◌≡◌, ℕ, zero, suc, ◌+◌, Bool, true, false, List, [], ◌∷◌, get_or, set, None, Option, sym, refl, ap, ◌∙◌, subst, inl, inr, ⊎_elim, arith}
use Rattle.std.proofs.lemmas.List.{get_or-set_other, set-set, set-get_or}
use Rattle.std.proofs.lemmas.Bool.{both_ways, cases_eq}
use Rattle.lines.specs.Timetables.{Clashes}
use Rattle.lines.specs.declared.line.Line.{Line}
use Rattle.scales.specs.declared.sums.OrderedSums.{Ghosts}
use Rattle.verdicts.specs.Choosing.{Needed, Dropped, Reduced}
use Rattle.tables.specs.Gathering.{Chosen}
use Rattle.verdicts.specs.Verdicts.{chosen_lines}

out : (picked : List Bool) (k : ℕ) → get_or (set picked k false) k false ≡ false
out [] k = refl
out (b ∷ bs) zero = refl
out (b ∷ bs) (suc k) = out bs k

-- what is chosen once k is taken out was chosen before, and is not k
chosen_without : (picked : List Bool) (k j : ℕ) → Chosen (set picked k false) j → Chosen picked j × (j ≡ k → ⊥)
chosen_without picked k j c =
    ⊎_elim
    (λ (at : j ≡ k). absurd (both_ways (get_or (set picked k false) k false) (out picked k) (subst (Chosen (set picked k false)) at c)))
    (λ ne. (sym (get_or-set_other picked k j false false ne) ∙ c, ne))
    (cases_eq j k)

pub chosen_with : (picked : List Bool) (k j : ℕ) → (j ≡ k → ⊥) → Chosen picked j → Chosen (set picked k false) j
chosen_with picked k j ne c = get_or-set_other picked k j false false ne ∙ c

-- a number that was taken out and put in again
pub restored : (picked : List Bool) (k : ℕ) → Chosen picked k → set (set picked k false) k true ≡ picked
restored picked k c = set-set picked k false true ∙ ap (set picked k) (sym c) ∙ set-get_or picked k false

module _ {S : Type 0} (m : Ghosts S) (records : List (Option Line)) where
  -- fewer numbers, fewer lines
  fewer : (p q : List Bool) → ((k : ℕ) → Chosen p k → Chosen q k) → (l : Line) → chosen_lines records p None l → chosen_lines records q None l
  fewer p q h l = ⊎_elim (λ c. inl (c.0, h c.0 c.1, c.2)) inr

  -- what is needed among some is needed among fewer
  still_needed : (p q : List Bool) (k : ℕ) → ((j : ℕ) → Chosen p j → Chosen q j) → Needed m records q k → Needed m records p k
  still_needed p q k h n =
      (n.0, λ l c. n.1 l (fewer (set p k false) (set q k false) (λ j d. let w = chosen_without p k j d in chosen_with q k j w.1 (h j w.0)) l c))

  module _ (before : List Bool) where
    pub reduced_none : Clashes m (chosen_lines records before None) → Reduced m records before before 0
    reduced_none clash = record { within = λ k c. c; clash = clash; needed = λ k h c. absurd (omega arith) }

    pub reduced_skip : (after : List Bool) (i : ℕ) → get_or after i false ≡ false → Reduced m records before after i → Reduced m records before after (i + 1)
    reduced_skip after i no' r = record {
      within = r.within;
      clash = r.clash;
      needed = λ k h c. ⊎_elim
          (λ (at : k ≡ i). absurd (both_ways (get_or after i false) no' (subst (Chosen after) at c)))
          (λ ne. r.needed k (omega arith) c)
          (cases_eq k i);
    }

    pub reduced_more : (mid after : List Bool) (i : ℕ) → Dropped m records i mid after → Reduced m records before mid i → Reduced m records before after (i + 1)
    reduced_more mid after i d r =
        ⊎_elim
        (λ taken.
        let less : (k : ℕ) → Chosen after k → Chosen mid k × (k ≡ i → ⊥) = λ k c. chosen_without mid i k (subst (λ p. Chosen p k) taken.0 c) in
        record {
          within = λ k c. r.within k (less k c).0;
          clash = taken.1;
          needed = λ k h c. let w = less k c in let ne : k ≡ i → ⊥ = w.1 in still_needed after mid k (λ j e. (less j e).0) (r.needed k (omega arith) w.0);
        })
        (λ kept. subst (λ p. Reduced m records before p (i + 1)) (sym kept.0) (record {
          within = r.within;
          clash = r.clash;
          needed = λ k h c. ⊎_elim
              (λ (at : k ≡ i). subst (Needed m records mid) (sym at) (subst (λ p. Needed m records p i) kept.0 kept.1))
              (λ ne. r.needed k (omega arith) c)
              (cases_eq k i);
        }))
        d
