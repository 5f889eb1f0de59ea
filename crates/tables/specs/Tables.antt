-- The records of a book, and which lines they may be.
use Rattle.std.specs.Prelude.{◌≡◌, ℕ, Bool, true, false, not, ◌&&◌, List, pos, negsuc, Some, None, Option, ◌==◌, int_le, nat_lt, slice_index_or}
use Rattle.lines.specs.Operators.{strict}
use Rattle.lines.specs.declared.line.Line.{Line}
use Rattle.lines.specs.declared.line.Right.{Right}
use Rattle.lines.specs.declared.line.Right.TheVariants.{Device, Constant}

-- the line l stands under the number k
abbrev pub Shows : List (Option Line) → ℕ → Line → Type 0
Shows records k l = slice_index_or records k None ≡ Some l

-- the right side is a device of the book, or a constant within its limits
abbrev pub reaches : ℕ → Right → Bool
reaches n (Device y) = nat_lt y n
reaches n (Constant c) = int_le (negsuc 999999) c && int_le c (pos 1000000)

abbrev pub is_device : ℕ → Right → Bool
is_device x (Device y) = x == y
is_device x (Constant c) = false

-- the test of a line that a book of n devices may hold
abbrev pub proper : ℕ → Line → Bool
proper n l = nat_lt l.x n && (reaches n l.right && not (strict l.op && is_device l.x l.right))

abbrev pub admits : ℕ → Option Line → Bool
admits n None = true
admits n (Some l) = proper n l
