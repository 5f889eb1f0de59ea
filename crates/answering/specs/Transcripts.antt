-- What a whole session prints.
use Rattle.std.specs.Prelude.{◌≡◌, ℕ, List, [], ◌++◌, Some, None, Ok, Err, Option, Result}
use Rattle.printing.specs.Closings.{closing}
use Rattle.scales.specs.declared.sums.OrderedSums.{Ghosts}
use Rattle.scales.specs.contracts.ticks.TicksOrderedSums.TheImpl as ticks
use Rattle.scales.specs.contracts.stepless.SteplessOrderedSums.TheImpl as stepless
use Rattle.session.specs.Headings.{Opened, Unopenable, byte_at}
use Rattle.session.specs.Readings.{Reads}
use Rattle.lines.specs.declared.call.Call.{Call}
use Rattle.session.specs.declared.fault.Fault.{Fault}
use Rattle.answering.specs.Conversations.{Answered}
use Rattle.answering.specs.declared.stop.Stop.{Stop}
use Rattle.answering.specs.declared.stop.Stop.TheVariants.{Faulted, Exhausted}

module _ {S : Type 0} (m : Ghosts S) where
  -- an opened session that reads as commands and then the end or a fault, with the lines of its commands
  pub record Conversed (bs : List ℕ) (fault : Option Fault) (out : List ℕ) : Type 0 where
    pub opened : Opened bs
    pub commands : List Call
    pub reads : Reads bs commands fault
    pub answers : Answered m (byte_at bs 5) commands out

-- the lines of all commands, on the scale whose code the heading has; a session that is not opened has none
pub data Runs (bs : List ℕ) : Option Fault → List ℕ → Type 0 where
  unopened : {f : Fault} → Unopenable bs f → Runs bs (Some f) []
  on_ticks : {f : Option Fault} {out : List ℕ} → byte_at bs 4 ≡ 0 → Conversed ticks.ghosts bs f out → Runs bs f out
  on_stepless : {f : Option Fault} {out : List ℕ} → byte_at bs 4 ≡ 1 → Conversed stepless.ghosts bs f out → Runs bs f out

-- those lines, and then that of the session's end or of its fault
pub record Transcript (bs out : List ℕ) : Type 0 where
  pub fault : Option Fault
  pub answers : List ℕ
  pub runs : Runs bs fault answers
  pub lines : out ≡ answers ++ closing fault

-- what P says of a session that came to its end, or to a fault; nothing where memory ran out
abbrev pub Ran : Result (Unit {0}) Stop → (Option Fault → Type 0) → Type 0
Ran (Ok u) P = P None
Ran (Err (Faulted f)) P = P (Some f)
Ran (Err (Exhausted e)) P = Unit {0}
