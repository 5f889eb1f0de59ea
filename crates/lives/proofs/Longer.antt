-- A life with one more call.
use Rattle.std.proofs.Common.{◌≡◌, ℕ, ◌-◌, ◌<◌, List, [], ◌∷◌, ◌++◌, map, length, get_or, take, sym, refl, ap, ◌∙◌, subst, ⊎_elim, arith}
use Rattle.std.proofs.lemmas.List.{get_or_append_left, get_or-append_right, length-append, take-append-le, take_all}
use Rattle.std.proofs.lemmas.Bool.{cases_lt}
use Rattle.scales.specs.declared.sums.OrderedSums.{Ghosts}
use Rattle.lives.specs.Lives.{Lawful, Lived}
use Rattle.lives.specs.Standing.{Stands, made}
use Rattle.lives.specs.declared.steps.Step.{Step}

-- what stands last in a list
last_is : {X : Type 0} (xs : List X) (x d : X) (i : ℕ) → i ≡ length xs → get_or (xs ++ x ∷ []) i d ≡ x
last_is xs x d i e =
    let z : i - length xs ≡ 0 = omega arith in
    get_or-append_right xs (x ∷ []) (length xs) i d refl (omega arith) ∙ ap (λ (k : ℕ). get_or (x ∷ []) k d) z

module _ {S : Type 0} (m : Ghosts S) (n : ℕ) (asked done : List (Step S)) (s t : Step S) (lived : Lived m n asked done) (next : Lawful m n (Stands (map made done)) s t) where
  longer : length (done ++ t ∷ []) ≡ length (asked ++ s ∷ [])
  longer = let a = length-append done (t ∷ []) in let b = length-append asked (s ∷ []) in let c = lived.all in omega arith

  -- the step i of the life, with the calls that were made before it
  abbrev LawfulAt : List (Step S) → Step S → Step S → Type 0
  LawfulAt past u v = Lawful m n (Stands (map made past)) u v

  moved : {p q : List (Step S)} {u u' v v' : Step S} → p ≡ q → u ≡ u' → v ≡ v' → LawfulAt p u v → LawfulAt q u' v'
  moved {p} {q} {u} {u'} {v} {v'} e f h l = subst (λ x. LawfulAt x u' v') e (subst (λ x. LawfulAt p x v') f (subst (LawfulAt p u) h l))

  each : (i : ℕ) (d : Step S) → i < length (asked ++ s ∷ []) → LawfulAt (take i (done ++ t ∷ [])) (get_or (asked ++ s ∷ []) i d) (get_or (done ++ t ∷ []) i d)
  each i d h =
      let long = length-append asked (s ∷ []) in
      let same = lived.all in
      ⊎_elim
      (λ before. moved (sym (take-append-le i done (t ∷ []) (omega arith))) (sym (get_or_append_left asked (s ∷ []) d i before)) (sym (get_or_append_left done (t ∷ []) d i (omega arith))) (lived.each i d before))
      (λ last.
      let at : i ≡ length asked = omega arith in
      moved (sym (take-append-le i done (t ∷ []) (omega arith) ∙ take_all i done (omega arith))) (sym (last_is asked s d i at)) (sym (last_is done t d i (omega arith))) next)
      (cases_lt i (length asked))

  pub lived_more : Lived m n (asked ++ s ∷ []) (done ++ t ∷ [])
  lived_more = record { all = longer; each = each }
