-- The reading of a session: its commands one after another, and its fault if it has one.
use Rattle.std.specs.Prelude.{◌≡◌, ℕ, List, [], ◌∷◌, Some, None, Option}
use Rattle.lines.specs.declared.call.Call.{Call}
use Rattle.session.specs.declared.fault.Fault.{Fault}
use Rattle.session.specs.Commands.{Closes, Spelt, Stops, behind}
use Rattle.session.specs.Headings.{Opened, Unopenable}

-- from p on: commands, and then Z, or a fault
pub data ReadsFrom (bs : List ℕ) : ℕ → List Call → Option Fault → Type 0 where
  command : {p : ℕ} {c : Call} {cs : List Call} {f : Option Fault} → Spelt bs p c → ReadsFrom bs (behind p c) cs f → ReadsFrom bs p (c ∷ cs) f
  over : {p : ℕ} → Closes bs p → ReadsFrom bs p [] None
  stopped : {p : ℕ} {f : Fault} → Stops bs p f → ReadsFrom bs p [] (Some f)

-- the whole session: what follows its heading, or the fault of its heading
pub data Reads (bs : List ℕ) : List Call → Option Fault → Type 0 where
  opened : {cs : List Call} {f : Option Fault} → Opened bs → ReadsFrom bs 6 cs f → Reads bs cs f
  unopened : {f : Fault} → Unopenable bs f → Reads bs [] (Some f)

-- whichever bytes a session holds, it has exactly one reading
pub record Reading (bs : List ℕ) : Type 0 where
  pub commands : List Call
  pub fault : Option Fault
  pub reads : Reads bs commands fault
  pub only : (cs : List Call) (f : Option Fault) → Reads bs cs f → (cs ≡ commands) × (f ≡ fault)

abbrev pub OneReading : Type 0
OneReading = (bs : List ℕ) → Reading bs
