-- Fields of several values, one after another.
use Rattle.std.proofs.Common.{◌≡◌, ℕ, ◌+◌, ◌<◌, List, [], ◌∷◌, ◌++◌, length, get_or, take, sym, ap, ◌∙◌, append_assoc}
use Rattle.std.proofs.lemmas.List.{flat_map_more, take_more}
use Rattle.std.specs.List.{flat_map}

module _ {X : Type 0} (text : X → List ℕ) (xs : List X) (i : ℕ) where
  -- the text of one more value behind those before it
  joined_next : (x : X) → i < length xs → x ≡ get_or xs i x → flat_map text (take i xs) ++ text x ≡ flat_map text (take (i + 1) xs)
  joined_next x h e =
      flat_map_more text [] (take i xs) x ∙ ap (λ y. flat_map text (take i xs ++ y ∷ [])) e ∙ ap (flat_map text) (sym (take_more xs i x h))

  -- and behind what was there before
  pub joined_more : (x : X) (before so_far more : List ℕ) → i < length xs → x ≡ get_or xs i x → so_far ≡ before ++ flat_map text (take i xs) → more ≡ so_far ++ text x → more ≡ before ++ flat_map text (take (i + 1) xs)
  joined_more x before so_far more h e s m =
      m ∙ ap (λ (l : List ℕ). l ++ text x) s ∙ append_assoc before (flat_map text (take i xs)) (text x) ∙ ap (λ (l : List ℕ). before ++ l) (joined_next x h e)
