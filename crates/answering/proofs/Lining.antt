-- A line at the front of a buffer.
use Rattle.std.proofs.Common.{◌≡◌, ℕ, ◌≤◌, List, ◌++◌, length, take, drop, sym, ap, ◌∙◌, take-append-drop}
use Rattle.std.proofs.lemmas.List.{take_at}
use Rattle.answering.specs.Responses.{Lined}

pub lined : {line before after : List ℕ} {k : ℕ} → k ≡ length line → take k after ≡ line → drop k after ≡ drop k before → 8192 ≤ length before → Lined line before k after
lined {line} {before} {after} {k} long front rest room =
    record {
      room = room;
      long = long;
      front = sym (take-append-drop k after) ∙ ap (λ (l : List ℕ). l ++ drop k after) front ∙ ap (λ (l : List ℕ). line ++ l) rest ∙ ap (λ (j : ℕ). line ++ drop j before) long;
    }

-- the line is the part of the buffer up to its end
pub line_front : {line before after : List ℕ} {k : ℕ} → Lined line before k after → take k after ≡ line
line_front {line} {before} {after} {k} l = ap (take k) l.front ∙ take_at line (drop (length line) before) k (sym l.long)
