-- The chosen numbers, named one after another.
use Rattle.std.proofs.Common.{◌≡◌, ℕ, ◌+◌, ◌<◌, Bool, true, false, List, [], ◌∷◌, ◌++◌, length, get_or, sym, subst, ⊎_elim, arith}
use Rattle.std.specs.List.{ContainsAt as Has}
use Rattle.std.proofs.ByRecursion.{has_append_left, has_get_or, has_push, has_push_cases}
use Rattle.std.proofs.lemmas.List.{get_or_append_left, get_or_push, length_push}
use Rattle.std.proofs.lemmas.Bool.{both_ways, cases_eq}
use Rattle.tables.specs.Naming.{Named}
use Rattle.tables.specs.Gathering.{Chosen}

module _ (picked : List Bool) where
  pub named_skip : (i : ℕ) (ks : List ℕ) → get_or picked i false ≡ false → Named picked i ks → Named picked (i + 1) ks
  named_skip i ks no' n = record {
    rising = n.rising;
    sound = λ k has. let s = n.sound k has in (omega (arith, s.0), s.1);
    complete = λ k h c. ⊎_elim
        (λ (at : k ≡ i). absurd (both_ways (get_or picked i false) no' (subst (Chosen picked) at c)))
        (λ ne. n.complete k (omega arith) c)
        (cases_eq k i);
  }

  pub named_more : (i : ℕ) (ks : List ℕ) → get_or picked i false ≡ true → Named picked i ks → Named picked (i + 1) (ks ++ i ∷ [])
  named_more i ks yes' n = record {
    rising = λ a b h l. ⊎_elim
        (λ (at : b ≡ length ks).
        let lt : a < length ks = omega arith in
        let under : get_or ks a 0 < i = (n.sound (get_or ks a 0) (has_get_or ks a 0 lt)).0 in
        omega (arith, under, get_or_append_left ks (i ∷ []) 0 a lt, get_or_push ks i 0 b (sym at)))
        (λ ne.
        let below : b < length ks = omega (arith, length_push ks i) in
        let lt : a < length ks = omega arith in
        omega (arith, n.rising a b h below, get_or_append_left ks (i ∷ []) 0 a lt, get_or_append_left ks (i ∷ []) 0 b below))
        (cases_eq b (length ks));
    sound = λ k has. ⊎_elim
        (λ old. let s = n.sound k old in (omega (arith, s.0), s.1))
        (λ (at : i ≡ k). (omega arith, subst (Chosen picked) at yes'))
        (has_push_cases ks i k has);
    complete = λ k h c. ⊎_elim
        (λ (at : k ≡ i). subst (Has (ks ++ i ∷ [])) (sym at) (has_push ks i))
        (λ ne. has_append_left ks (i ∷ []) k (n.complete k (omega arith) c))
        (cases_eq k i);
  }
