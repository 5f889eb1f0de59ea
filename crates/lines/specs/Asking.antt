-- What a line as it is asked for may be refused for, and the line that it is.
use Rattle.std.specs.Prelude.{◌≡◌, ℕ, ◌≤◌, ◌⊎◌, pos, negsuc, ◌<ℤ◌}
use Rattle.lines.specs.declared.asked.Asked.{Asked}
use Rattle.lines.specs.declared.line.Line.{Line}
use Rattle.lines.specs.declared.line.Right.{Right}
use Rattle.lines.specs.declared.line.Right.TheVariants.{Device, Constant}
use Rattle.lines.specs.declared.operator.Operator.{Operator}
use Rattle.lines.specs.declared.operator.Operator.TheVariants.{Before, After}
use Rattle.lines.specs.Operators.{byte_of}
use Rattle.lines.specs.Proper.{Same}

abbrev ForeignRight : ℕ → Right → Type 0
ForeignRight n (Device y) = n ≤ y
ForeignRight n (Constant c) = ⊥

-- a device number is n or more
abbrev pub Foreign : ℕ → Asked → Type 0
Foreign n a = (n ≤ a.x) ⊎ ForeignRight n a.right

-- the constant is outside its limits
abbrev pub Outside : Right → Type 0
Outside (Device y) = ⊥
Outside (Constant c) = (c <ℤ negsuc 999999) ⊎ (pos 1000000 <ℤ c)

-- the line sets a device before or after itself
abbrev pub SetsItself : Asked → Type 0
SetsItself a = ((a.op ≡ byte_of Before) ⊎ (a.op ≡ byte_of After)) × Same a.x a.right

abbrev pub written : Asked → Operator → Line
written a op = record { x = a.x; op = op; right = a.right }

-- l is the line that is asked for
pub record Writes (a : Asked) (l : Line) : Type 0 where
  pub left : l.x ≡ a.x
  pub byte : byte_of l.op ≡ a.op
  pub right : l.right ≡ a.right
