-- Whether a line follows from a sheet, and what is shown where it does not.
use Rattle.std.specs.Prelude.{◌≡◌, ℕ, ◌⊎◌, List, drop, Some}
use Rattle.lines.specs.Operators.{opposites}
use Rattle.lines.specs.Quarrels.{Sheet, standing}
use Rattle.lines.specs.Timetables.{First, Clashes, Follows, and_also}
use Rattle.lines.specs.declared.line.Line.{Line}
use Rattle.lines.specs.declared.operator.Operator.{Operator}
use Rattle.scales.specs.declared.sums.OrderedSums.{Ghosts}
use Rattle.bounds.specs.Bounds.{times_of}
use Rattle.verdicts.specs.Verdicts.{Printable, floor}
use Rattle.verdicts.specs.declared.following.Followed.{Followed}
use Rattle.verdicts.specs.declared.following.Followed.TheVariants.{Yes, No}

-- the line with another operator
abbrev pub under_operator : Line → Operator → Line
under_operator l op = record { x = l.x; op = op; right = l.right }

module _ {S : Type 0} (m : Ghosts S) where
  -- o is the opposite of l that a no shows: its opposite, of with the one by before, or the one by after where before clashes with
  -- the lines
  abbrev pub OppositeTo : (Line → Type 0) → Line → Line → Type 0
  OppositeTo lines l o =
      (o ≡ under_operator l (opposites l.op).0)
      ⊎ ((p : Operator) × ((opposites l.op).1 ≡ Some p) × Clashes m (and_also lines (under_operator l (opposites l.op).0)) × (o ≡ under_operator l p))

  -- yes, or no with the first timetable of the lines and the opposite at the front of times
  abbrev pub FollowedAs : ℕ → Sheet → Line → List S → Followed → List S → Type 0
  FollowedAs n sheet l times Yes times' = Follows m (standing sheet) l × (times' ≡ times)
  FollowedAs n sheet l times No times' =
      ((o : Line) × OppositeTo (standing sheet) l o × First m n (floor m) (and_also (standing sheet) o) (times_of m times'))
      × Printable m n (times_of m times') × (drop n times' ≡ drop n times)
