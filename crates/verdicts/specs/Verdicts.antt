-- What is said of the chosen lines.
use Rattle.std.specs.Prelude.{◌≡◌, ℕ, ◌<◌, ◌≤◌, Bool, true, false, ◌⊎◌, List, drop, negsuc, Some, Option}
use Rattle.lines.specs.Keeping.{Timetable}
use Rattle.lines.specs.Timetables.{First, Clashes}
use Rattle.lines.specs.declared.line.Line.{Line}
use Rattle.scales.specs.declared.sums.OrderedSums.{Ghosts}
use Rattle.bounds.specs.Bounds.{times_of}
use Rattle.tables.specs.Gathering.{Chosen}
use Rattle.tables.specs.Tables.{Shows}

-- the chosen lines of a table, and one more if there is one
abbrev pub chosen_lines : List (Option Line) → List Bool → Option Line → Line → Type 0
chosen_lines records picked more l = ((k : ℕ) × Chosen picked k × Shows records k l) ⊎ (more ≡ Some l)

module _ {S : Type 0} (m : Ghosts S) where
  -- the floor of first timetables: the reading of -1,000,000,000
  abbrev pub floor : m.Time
  floor = m.reading (negsuc 999999999)

  -- no time of n devices is too large to be printed
  abbrev pub Printable : ℕ → Timetable m → Type 0
  Printable n t = (x : ℕ) → x < n → m.size (t x) ≤ 1000000000000

  -- t is the first timetable of the lines, or they clash
  abbrev pub Verdict : ℕ → (Line → Type 0) → Timetable m → Bool → Type 0
  Verdict n lines t true = First m n floor lines t × Printable n t
  Verdict n lines t false = Clashes m lines

  -- the first timetable of the lines at the front of times, or nothing where they clash
  abbrev pub Shown : ℕ → (Line → Type 0) → List S → Bool → List S → Type 0
  Shown n lines times true times' = First m n floor lines (times_of m times') × Printable n (times_of m times') × (drop n times' ≡ drop n times)
  Shown n lines times false times' = Clashes m lines × (times' ≡ times)
