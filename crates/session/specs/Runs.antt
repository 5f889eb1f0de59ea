-- A run of the readers over a session, by what each of them promises.
use Rattle.std.specs.Prelude.{ℕ, List, [], ◌∷◌, Some, None, Ok, Err, Option}
use Rattle.lines.specs.declared.call.Call.{Call}
use Rattle.session.specs.declared.fault.Fault.{Fault}
use Rattle.session.specs.declared.reader.Commands.{Commands}
use Rattle.session.specs.Readings.{Reads}
use Rattle.session.specs.Headings.{Opens}
use Rattle.session.specs.Stages.{Gives}

-- the reader gives command after command, each from the reader that the one before left, up to the end or to a fault
pub data Takes : Commands → List Call → Option Fault → Type 0 where
  command : {s s' : Commands} {c : Call} {cs : List Call} {f : Option Fault} → Gives s (Ok (Some (c, s'))) → Takes s' cs f → Takes s (c ∷ cs) f
  over : {s : Commands} → Gives s (Ok None) → Takes s [] None
  stopped : {s : Commands} {f : Fault} → Gives s (Err f) → Takes s [] (Some f)

-- the session is opened and read, or its heading has a fault
pub data Run (bs : List ℕ) : List Call → Option Fault → Type 0 where
  opened : {s : Commands} {cs : List Call} {f : Option Fault} → Opens bs (Ok s) → Takes s cs f → Run bs cs f
  unopened : {f : Fault} → Opens bs (Err f) → Run bs [] (Some f)

-- whatever a run of the readers gives is the session's reading
abbrev pub ReadersGive : Type 0
ReadersGive = (bs : List ℕ) (cs : List Call) (f : Option Fault) → Run bs cs f → Reads bs cs f
