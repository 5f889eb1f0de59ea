-- The command Z, which ends a session.
use Rattle.std.specs.Prelude.{◌≡◌, ℕ, ◌<◌, ◌⊎◌, List, length, Ok, Err, Result}
use Rattle.session.specs.Commands.{Closes, Missing, unknown_at}
use Rattle.session.specs.Headings.{byte_at}
use Rattle.session.specs.declared.fault.Fault.{Fault}

-- another byte than Z stands at p
pub record Strange (bs : List ℕ) (p : ℕ) (f : Fault) : Type 0 where
  pub inside : p < length bs
  pub other : byte_at bs p ≡ 0x5A → ⊥
  pub fault : f ≡ unknown_at p

abbrev pub Ends : List ℕ → ℕ → Result (Unit {0}) Fault → Type 0
Ends bs p (Ok r) = Closes bs p
Ends bs p (Err f) = Missing bs p f ⊎ Strange bs p f
