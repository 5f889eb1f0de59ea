use Rattle.std.proofs.Common.{◌≡◌, ℕ, ◌*◌, ◌<◌, get_or, vec_items, vec_len}
use Rattle.sheets.specs.Hex.{Spelt}
use Rattle.sheets.proofs.hex.decode.Given as goal

abbrev pub invariant-loop-triple : goal.invariant-loop-triple
invariant-loop-triple l = (vec_len l.out ≡ l.triple-index) × ((k : ℕ) → k < l.triple-index → Spelt l.text (3 * k) (get_or (vec_items l.out) k 0))
