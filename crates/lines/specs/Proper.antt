-- The lines that a book of n devices may hold.
use Rattle.std.specs.Prelude.{◌≡◌, ℕ, ◌<◌, ◌⊎◌, pos, negsuc, ◌≤ℤ◌}
use Rattle.lines.specs.declared.line.Line.{Line}
use Rattle.lines.specs.declared.line.Right.{Right}
use Rattle.lines.specs.declared.line.Right.TheVariants.{Device, Constant}
use Rattle.lines.specs.declared.operator.Operator.TheVariants.{Before, After}

-- the right side is no constant outside its limits
abbrev pub Within : Right → Type 0
Within (Device y) = Unit {0}
Within (Constant c) = (negsuc 999999 ≤ℤ c) × (c ≤ℤ pos 1000000)

-- the right side is no device beyond the last
abbrev pub Known : ℕ → Right → Type 0
Known n (Device y) = y < n
Known n (Constant c) = Unit {0}

-- the right side is the device x
abbrev pub Same : ℕ → Right → Type 0
Same x (Device y) = x ≡ y
Same x (Constant c) = ⊥

-- devices and constant are within their limits
pub record Limited (n : ℕ) (l : Line) : Type 0 where
  pub left : l.x < n
  pub right : Known n l.right
  pub constant : Within l.right

-- and no device is set before or after itself
pub record Proper (n : ℕ) (l : Line) : Type 0 where
  pub limited : Limited n l
  pub apart : (l.op ≡ Before) ⊎ (l.op ≡ After) → Same l.x l.right → ⊥
