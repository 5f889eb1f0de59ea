-- What enter and strike answer, and what they leave under each number.
use Rattle.std.specs.Prelude.{◌≡◌, ℕ, List, Some, None, Option, Result, MatchResult, slice_set}
use Rattle.engine.specs.Checks.{Granted, Refused, enter_checks, strike_checks}
use Rattle.tables.specs.Tables.{Shows}
use Rattle.engine.specs.declared.refusal.Refusal.{Refusal}
use Rattle.lines.specs.Asking.{Writes}
use Rattle.lines.specs.declared.asked.Asked.{Asked}
use Rattle.lines.specs.declared.line.Line.{Line}

-- granted, the one number has the line that is asked for; refused, nothing changed
abbrev pub Entered : ℕ → List (Option Line) → ℕ → Asked → Result (Unit {0}) Refusal → List (Option Line) → Type 0
Entered n before k a r after =
    MatchResult r
    (λ _. Granted (enter_checks n (Shows before) k a) × ((l : Line) × Writes a l × (after ≡ slice_set before k (Some l))))
    (λ e. Refused (enter_checks n (Shows before) k a) e × (after ≡ before))

-- granted, the one number has none
abbrev pub Struck : List (Option Line) → ℕ → Result (Unit {0}) Refusal → List (Option Line) → Type 0
Struck before k r after =
    MatchResult r
    (λ _. Granted (strike_checks (Shows before) k) × (after ≡ slice_set before k None))
    (λ e. Refused (strike_checks (Shows before) k) e × (after ≡ before))
