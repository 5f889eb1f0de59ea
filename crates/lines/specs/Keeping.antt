-- When a timetable keeps a line.
use Rattle.std.specs.Prelude.{◌≡◌, ℕ}
use Rattle.lines.specs.declared.line.Line.{Line}
use Rattle.lines.specs.declared.line.Right.{Right}
use Rattle.lines.specs.declared.line.Right.TheVariants.{Device, Constant}
use Rattle.lines.specs.declared.operator.Operator.{Operator}
use Rattle.lines.specs.declared.operator.Operator.TheVariants as op
use Rattle.scales.specs.Order.{NotAfter, Before}
use Rattle.scales.specs.declared.sums.OrderedSums.{Ghosts}

module _ {S : Type 0} (m : Ghosts S) where
  -- a time for each device, however large
  abbrev pub Timetable : Type 0
  Timetable = ℕ → m.Time

  -- the comparison holds of two times
  abbrev pub Compares : Operator → m.Time → m.Time → Type 0
  Compares op.Before a b = Before m a b
  Compares op.NotAfter a b = NotAfter m a b
  Compares op.With a b = a ≡ b
  Compares op.NotBefore a b = NotAfter m b a
  Compares op.After a b = Before m b a

  -- the time that a line compares with: of a device, or the reading of a constant
  abbrev pub right_time : Timetable → Right → m.Time
  right_time t (Device y) = t y
  right_time t (Constant c) = m.reading c

  abbrev pub Keeps : Timetable → Line → Type 0
  Keeps t l = Compares l.op (t l.x) (right_time t l.right)

  -- t keeps every line of a set of lines
  abbrev pub KeepsAll : Timetable → (Line → Type 0) → Type 0
  KeepsAll t lines = (l : Line) → lines l → Keeps t l
