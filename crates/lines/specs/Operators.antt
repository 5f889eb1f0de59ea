-- The operators: their bytes and their opposites.
use Rattle.std.specs.Prelude.{ℕ, Bool, true, false, Some, None, Option, ◌≢◌}
use Rattle.lines.specs.declared.operator.Operator.{Operator}
use Rattle.lines.specs.declared.operator.Operator.TheVariants.{Before, NotAfter, With, NotBefore, After}

abbrev pub byte_of : Operator → ℕ
byte_of Before = 0x3C
byte_of NotAfter = 0x6C
byte_of With = 0x3D
byte_of NotBefore = 0x67
byte_of After = 0x3E

-- the byte is none of the five
abbrev pub Unnamed : ℕ → Type 0
Unnamed b = (op : Operator) → byte_of op ≢ b

-- before and after are between times that differ
abbrev pub strict : Operator → Bool
strict Before = true
strict NotAfter = false
strict With = false
strict NotBefore = false
strict After = true

-- before and not before are opposites, and so are after and not after; the opposite of with is before, or after
abbrev pub opposites : Operator → Operator × Option Operator
opposites Before = (NotBefore, None)
opposites NotAfter = (After, None)
opposites With = (Before, Some After)
opposites NotBefore = (Before, None)
opposites After = (NotAfter, None)
