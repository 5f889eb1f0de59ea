-- What can be said of the timetables that keep a set of lines.
use Rattle.std.specs.Prelude.{◌≡◌, ℕ, ◌<◌, ◌⊎◌, Some, None, Option}
use Rattle.lines.specs.declared.line.Line.{Line}
use Rattle.lines.specs.Keeping.{Timetable, Keeps, KeepsAll}
use Rattle.scales.specs.Order.{NotAfter, Before}
use Rattle.scales.specs.declared.sums.OrderedSums.{Ghosts}

-- a set of lines, with one line more
abbrev pub and_also : (Line → Type 0) → Line → (Line → Type 0)
and_also lines o = λ l. lines l ⊎ (l ≡ o)

module _ {S : Type 0} (m : Ghosts S) where
  -- some timetable keeps the lines; none does
  abbrev pub Keepable : (Line → Type 0) → Type 0
  Keepable lines = (t : Timetable m) × KeepsAll m t lines

  abbrev pub Clashes : (Line → Type 0) → Type 0
  Clashes lines = (t : Timetable m) → KeepsAll m t lines → ⊥

  -- none of n devices is before the floor
  abbrev pub OnFloor : ℕ → m.Time → Timetable m → Type 0
  OnFloor n floor t = (x : ℕ) → x < n → NotAfter m floor (t x)

  -- t is the first timetable: it keeps the lines with none of n devices before the floor, and no other such timetable is
  -- anywhere earlier
  pub record First (n : ℕ) (floor : m.Time) (lines : Line → Type 0) (t : Timetable m) : Type 0 where
    pub keeps : KeepsAll m t lines
    pub above : OnFloor n floor t
    pub least : (s : Timetable m) → KeepsAll m s lines → OnFloor n floor s → (x : ℕ) → x < n → NotAfter m (t x) (s x)

  -- some timetable that keeps the lines gives x the time v
  abbrev pub Attains : (Line → Type 0) → ℕ → m.Time → Type 0
  Attains lines x v = (t : Timetable m) × KeepsAll m t lines × (t x ≡ v)

  -- the least time of x in any timetable that keeps the lines, or none where each such timetable has another with x earlier
  abbrev pub Earliest : (Line → Type 0) → ℕ → Option S → Type 0
  Earliest lines x (Some v) = Attains lines x (m.means v) × ((t : Timetable m) → KeepsAll m t lines → NotAfter m (m.means v) (t x))
  Earliest lines x None = (t : Timetable m) → KeepsAll m t lines → (s : Timetable m) × KeepsAll m s lines × Before m (s x) (t x)

  -- the mirror of that
  abbrev pub Latest : (Line → Type 0) → ℕ → Option S → Type 0
  Latest lines x (Some v) = Attains lines x (m.means v) × ((t : Timetable m) → KeepsAll m t lines → NotAfter m (t x) (m.means v))
  Latest lines x None = (t : Timetable m) → KeepsAll m t lines → (s : Timetable m) × KeepsAll m s lines × Before m (t x) (s x)

  -- every timetable that keeps the lines keeps this one
  abbrev pub Follows : (Line → Type 0) → Line → Type 0
  Follows lines l = (t : Timetable m) → KeepsAll m t lines → Keeps m t l
