-- A text at the front of a lent buffer.
use Rattle.std.specs.Prelude.{◌≡◌, ◌≤◌, ℕ, List, length, take, drop}
use Rattle.writing.specs.declared.front.Front.{Front}

-- how long the text is
abbrev pub end_of : Front → ℕ
end_of t = t.end

-- how long the buffer is
abbrev pub capacity_of : Front → ℕ
capacity_of t = length t.buffer.now

-- the bytes of the text
abbrev pub written : Front → List ℕ
written t = take t.end t.buffer.now

-- the text is in the buffer where it was and no shorter, and what lies behind it is as it was
pub record Stays (before after : Front) : Type 0 where
  pub same : after.buffer.ghost_name ≡ before.buffer.ghost_name
  pub long : capacity_of after ≡ capacity_of before
  pub on : end_of before ≤ end_of after
  pub rest : drop after.end after.buffer.now ≡ drop after.end before.buffer.now
