-- A text cut into parts of three bytes.
use Rattle.std.proofs.Common.{◌≡◌, ℕ, zero, suc, ◌+◌, ◌*◌, ◌<◌, ◌⊎◌, List, [], get_or, drop, sym, ap, ◌∙◌, subst, lit<, arith}
use Rattle.std.proofs.lemmas.List.{get_or-drop, get_or-take}
use Rattle.std.specs.Simd.{first_chunks}
use Rattle.sheets.specs.Hex.{Spelt}

-- byte i of part k
in_part : (n count : ℕ) (text : List ℕ) (k i : ℕ) → k < count → i < n → get_or (get_or (first_chunks n count text) k []) i 0 ≡ get_or text (n * k + i) 0
in_part n zero text k i h inside = absurd (omega arith)
in_part n (suc count) text zero i h inside = get_or-take n text i 0 inside ∙ ap (λ (p : ℕ). get_or text p 0) (omega arith)
in_part n (suc count) text (suc k) i h inside =
    in_part n count (drop n text) k i (omega arith) inside ∙ get_or-drop n text (n * k + i) 0 ∙ ap (λ (p : ℕ). get_or text p 0) (omega arith)

-- the same three bytes spell the same
spelt_as : (xs ys : List ℕ) (p q b : ℕ) → get_or xs p 0 ≡ get_or ys q 0 → get_or xs (p + 1) 0 ≡ get_or ys (q + 1) 0 → get_or xs (p + 2) 0 ≡ get_or ys (q + 2) 0
    → Spelt xs p b → Spelt ys q b
spelt_as xs ys p q b one two three s = record {
  high = s.high;
  low = s.low;
  first = (s.first.0, s.first.1 ∙ one);
  second = (s.second.0, s.second.1 ∙ two);
  behind = subst (λ (byte : ℕ). (byte ≡ 32) ⊎ (byte ≡ 10)) three s.behind;
  byte = s.byte;
}

module _ (count : ℕ) (text : List ℕ) (k b : ℕ) (h : k < count) where
  abbrev part : List ℕ
  part = get_or (first_chunks 3 count text) k []

  at_first : get_or part 0 0 ≡ get_or text (3 * k) 0
  at_first = in_part 3 count text k 0 h (lit< tt) ∙ ap (λ (p : ℕ). get_or text p 0) (omega arith)

  pub spelt_in_text : Spelt part 0 b → Spelt text (3 * k) b
  spelt_in_text = spelt_as part text 0 (3 * k) b at_first (in_part 3 count text k 1 h (lit< tt)) (in_part 3 count text k 2 h (lit< tt))

  pub spelt_in_part : Spelt text (3 * k) b → Spelt part 0 b
  spelt_in_part = spelt_as text part (3 * k) 0 b (sym at_first) (sym (in_part 3 count text k 1 h (lit< tt))) (sym (in_part 3 count text k 2 h (lit< tt)))
