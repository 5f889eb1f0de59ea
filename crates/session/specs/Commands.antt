-- One command of a session: how it is spelt, and what stands in its place where there is none.
use Rattle.std.specs.Prelude.{◌≡◌, ℕ, ◌+◌, ◌<◌, ◌≤◌, ◌⊎◌, List, length, ◌≢◌}
use Rattle.lines.specs.declared.asked.Asked.{Asked}
use Rattle.lines.specs.declared.line.Right.{Right}
use Rattle.lines.specs.declared.line.Right.TheVariants.{Device, Constant}
use Rattle.lines.specs.declared.call.Call.{Call}
use Rattle.lines.specs.declared.call.Call.TheVariants.{Enter, Strike, Settle, Window, Follows}
use Rattle.session.specs.declared.fault.Cause.TheVariants.{UnknownCommand}
use Rattle.session.specs.declared.fault.Fault.{Fault}
use Rattle.session.specs.declared.fault.Layer.TheVariants as layer
use Rattle.session.specs.Headings.{byte_at}
use Rattle.session.specs.Operands.{number_at, pair_at, clock_at, cut_off, ended_early}

-- the byte that begins the command to enter a line: E with a device to its right, C with a constant
abbrev pub enter_letter : Right → ℕ
enter_letter (Device y) = 0x45
enter_letter (Constant c) = 0x43

-- the byte that begins the question whether a line follows: F with a device to its right, G with a constant
abbrev pub follows_letter : Right → ℕ
follows_letter (Device y) = 0x46
follows_letter (Constant c) = 0x47

-- the byte that a command begins with
abbrev pub letter_of : Call → ℕ
letter_of (Enter k a) = enter_letter a.right
letter_of (Strike k) = 0x53
letter_of Settle = 0x54
letter_of (Window x) = 0x57
letter_of (Follows a) = follows_letter a.right

-- how many bytes a line has
abbrev pub line_width : Right → ℕ
line_width (Device y) = 3
line_width (Constant c) = 6

-- how many operand bytes follow the letter
abbrev pub width_of : Call → ℕ
width_of (Enter k a) = 2 + line_width a.right
width_of (Strike k) = 2
width_of Settle = 0
width_of (Window x) = 1
width_of (Follows a) = line_width a.right

-- the line that the bytes from p on say, with what kind of right side it has
abbrev pub line_at : List ℕ → ℕ → Right → Asked
line_at bs p (Device y) = pair_at bs p
line_at bs p (Constant c) = clock_at bs p

-- the command's operands are what the bytes from p on say
abbrev pub OperandsAt : List ℕ → ℕ → Call → Type 0
OperandsAt bs p (Enter k a) = (k ≡ number_at bs p) × (a ≡ line_at bs (p + 2) a.right)
OperandsAt bs p (Strike k) = k ≡ number_at bs p
OperandsAt bs p Settle = Unit {0}
OperandsAt bs p (Window x) = x ≡ byte_at bs p
OperandsAt bs p (Follows a) = a ≡ line_at bs p a.right

-- the place behind a command that begins at p
abbrev pub behind : ℕ → Call → ℕ
behind p c = p + 1 + width_of c

-- the command c stands at p: its letter, and all its operands
pub record Spelt (bs : List ℕ) (p : ℕ) (c : Call) : Type 0 where
  pub letter : byte_at bs p ≡ letter_of c
  pub inside : behind p c ≤ length bs
  pub operands : OperandsAt bs (p + 1) c

-- the command Z stands at p, which ends a session
pub record Closes (bs : List ℕ) (p : ℕ) : Type 0 where
  pub inside : p < length bs
  pub letter : byte_at bs p ≡ 0x5A

-- the bytes end where a command is due
pub record Missing (bs : List ℕ) (p : ℕ) (f : Fault) : Type 0 where
  pub past : length bs ≤ p
  pub fault : f ≡ ended_early layer.Command bs

-- the fault of a byte that begins no command
abbrev pub unknown_at : ℕ → Fault
unknown_at p = record { cause = UnknownCommand; place = p; layer = layer.Command }

-- the byte at p begins no command
pub record Unknown (bs : List ℕ) (p : ℕ) (f : Fault) : Type 0 where
  pub inside : p < length bs
  pub strange : (c : Call) → byte_at bs p ≢ letter_of c
  pub going_on : byte_at bs p ≡ 0x5A → ⊥
  pub fault : f ≡ unknown_at p

-- a command begins at p, and its operands are not all there
pub record CutShort (bs : List ℕ) (p : ℕ) (f : Fault) : Type 0 where
  pub inside : p < length bs
  pub command : Call
  pub letter : byte_at bs p ≡ letter_of command
  pub short : length bs < behind p command
  pub fault : f ≡ cut_off bs

-- no command can be read at p
abbrev pub Stops : List ℕ → ℕ → Fault → Type 0
Stops bs p f = Missing bs p f ⊎ (Unknown bs p f ⊎ CutShort bs p f)
