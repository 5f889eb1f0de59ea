-- The window of a device.
use Rattle.std.specs.Prelude.{ℕ, ◌≤◌, IfSome, Option}
use Rattle.lines.specs.Timetables.{Keepable, Earliest, Latest}
use Rattle.lines.specs.declared.line.Line.{Line}
use Rattle.scales.specs.declared.sums.OrderedSums.{Ghosts}

module _ {S : Type 0} (m : Ghosts S) where
  -- an end that is there is not too large to be printed
  abbrev pub PrintableEnd : Option S → Type 0
  PrintableEnd end = IfSome end (λ v. m.size (m.means v) ≤ 1000000000000)

  -- some timetable keeps the lines; the earliest and the latest time of x, each with whether it is there
  pub record Window (lines : Line → Type 0) (x : ℕ) (ends : Option S × Option S) : Type 0 where
    pub kept : Keepable m lines
    pub earliest : Earliest m lines x ends.0
    pub latest : Latest m lines x ends.1
    pub printable : PrintableEnd ends.0 × PrintableEnd ends.1
