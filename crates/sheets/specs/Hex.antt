-- Bytes written in hexadecimal.
use Rattle.std.specs.Prelude.{◌≡◌, ℕ, ◌+◌, ◌*◌, ◌<◌, ◌⊎◌, List, length, codes, slice_index}

-- each digit stands at the place that it is worth
abbrev pub digits : List ℕ
digits = codes "0123456789ABCDEF"

-- the byte b is the digit that is worth v
abbrev pub Worth : ℕ → ℕ → Type 0
Worth b v = (v < 16) × (slice_index digits v ≡ b)

-- two digits from place p on, the high one first, and a space or a newline behind them, spell the byte b
pub record Spelt (text : List ℕ) (p b : ℕ) : Type 0 where
  pub high : ℕ
  pub low : ℕ
  pub first : Worth (slice_index text p) high
  pub second : Worth (slice_index text (p + 1)) low
  pub behind : (slice_index text (p + 2) ≡ 32) ⊎ (slice_index text (p + 2) ≡ 10)
  pub byte : b ≡ 16 * high + low

-- the text spells these bytes, one behind the other, and nothing else
pub record Decoded (text out : List ℕ) : Type 0 where
  pub whole : length text ≡ 3 * length out
  pub bytes : (k : ℕ) → k < length out → Spelt text (3 * k) (slice_index out k)

-- no list of bytes is what the text spells
abbrev pub Illegible : List ℕ → Type 0
Illegible text = (out : List ℕ) → Decoded text out → ⊥
