-- What a whole session prints.
use Rattle.std.specs.Prelude.{◌≡◌, ℕ, ◌⊎◌, List, Ok, Err, Result}
use Rattle.std.specs.Result.{result_err}
use Rattle.session.specs.Endings.{Ends}
use Rattle.session.specs.Headings.{Opened, Unopenable}
use Rattle.session.specs.declared.fault.Fault.{Fault}
use Rattle.printing.specs.Closings.{closing}

-- a session has a heading and then the command that ends it, or the fault that comes first
abbrev pub Read : List ℕ → Result (Unit {0}) Fault → Type 0
Read bs (Ok r) = Opened bs × Ends bs 6 (Ok r)
Read bs (Err f) = Unopenable bs f ⊎ (Opened bs × Ends bs 6 (Err f))

-- what is printed of the bytes: the one line of the session's end or of its fault
pub record Transcript (bs out : List ℕ) : Type 0 where
  pub ending : Result (Unit {0}) Fault
  pub read : Read bs ending
  pub lines : out ≡ closing (result_err ending)
