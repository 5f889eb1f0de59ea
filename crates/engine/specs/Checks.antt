-- What each call checks, in order, and what it is to be refused.
use Rattle.std.specs.Prelude.{◌≡◌, ℕ, ◌<◌, ◌≤◌, ◌⊎◌, List, [], ◌∷◌}
use Rattle.engine.specs.declared.refusal.Refusal.{Refusal}
use Rattle.engine.specs.declared.refusal.Refusal.TheVariants.{Devices, OperatorByte, DeviceNumber, Constant, LineNumber, Itself, Buffer, Taken, Free, Clash}
use Rattle.lines.specs.Asking.{Foreign, Outside, SetsItself}
use Rattle.lines.specs.Operators.{Unnamed}
use Rattle.lines.specs.Quarrels.{Sheet}
use Rattle.lines.specs.declared.asked.Asked.{Asked}
use Rattle.lines.specs.declared.line.Line.{Line}

-- a refusal, and when it applies
pub record Check : Type 1 where
  pub refusal : Refusal
  pub applies : Type 0

abbrev pub if : Type 0 → Refusal → Check
if P r = record { refusal = r; applies = P }

-- none of the checks applies
abbrev pub Granted : List Check → Type 0
Granted [] = Unit {0}
Granted (c ∷ cs) = (c.applies → ⊥) × Granted cs

-- r is the first that applies
abbrev pub Refused : List Check → Refusal → Type 0
Refused [] r = ⊥
Refused (c ∷ cs) r = (c.applies × (r ≡ c.refusal)) ⊎ ((c.applies → ⊥) × Refused cs r)

-- a book is begun with n devices
abbrev pub begin_checks : ℕ → List Check
begin_checks n = if ((n < 1) ⊎ (200 < n)) Devices ∷ []

-- an enter of the line a under the number k, in a book of n devices
abbrev pub enter_checks : ℕ → Sheet → ℕ → Asked → List Check
enter_checks n sheet k a =
    if (399 < k) LineNumber
    ∷ if (Unnamed a.op) OperatorByte
    ∷ if (Foreign n a) DeviceNumber
    ∷ if (Outside a.right) Constant
    ∷ if (SetsItself a) Itself
    ∷ if ((l : Line) × sheet k l) Taken
    ∷ []

abbrev pub strike_checks : Sheet → ℕ → List Check
strike_checks sheet k = if (399 < k) LineNumber ∷ if ((l : Line) → sheet k l → ⊥) Free ∷ []

-- buffers of these lengths for times, names and work
abbrev pub settle_checks : ℕ → ℕ → ℕ → ℕ → List Check
settle_checks n times names work = if ((times < n) ⊎ ((names < 400) ⊎ (work < 1000))) Buffer ∷ []

-- the window of x, where the standing lines clash or not
abbrev pub window_checks : ℕ → ℕ → ℕ → Type 0 → List Check
window_checks n x work clash = if (n ≤ x) DeviceNumber ∷ if (work < 1000) Buffer ∷ if clash Clash ∷ []

abbrev pub follows_checks : ℕ → Asked → ℕ → ℕ → List Check
follows_checks n a times work =
    if (Unnamed a.op) OperatorByte
    ∷ if (Foreign n a) DeviceNumber
    ∷ if (Outside a.right) Constant
    ∷ if ((times < n) ⊎ (work < 1000)) Buffer
    ∷ []
