-- What stands behind a place of a buffer.
use Rattle.std.proofs.Common.{◌≡◌, ℕ, ◌+◌, ◌-◌, ◌≤◌, List, drop, sym, ap, ◌∙◌, arith}
use Rattle.std.proofs.lemmas.List.{drop-drop}

-- lists that are the same from i on are the same further on
pub same_further : {X : Type 0} (xs ys : List X) (i j : ℕ) → i ≤ j → drop i xs ≡ drop i ys → drop j xs ≡ drop j ys
same_further xs ys i j h e =
    let whole : i + (j - i) ≡ j = omega arith in
    rw whole at (sym (drop-drop (j - i) i xs) ∙ ap (drop (j - i)) e ∙ drop-drop (j - i) i ys)
