-- The weights that a workbench holds.
use Rattle.std.specs.Prelude.{ℕ, List, Option}
use Rattle.lines.specs.Bounding.{weight_of}
use Rattle.lines.specs.declared.line.Line.{Line}
use Rattle.bounds.specs.Bounds.{times_of}
use Rattle.scales.specs.Order.{NotAfter}
use Rattle.scales.specs.declared.sums.OrderedSums.{Ghosts}
use Rattle.tables.specs.Tables.{Shows}

module _ {S : Type 0} (m : Ghosts S) where
  -- under the number of each line stands its weight: a time neither before nor after it
  abbrev pub Weighted : List (Option Line) → List S → Type 0
  Weighted records weights = (k : ℕ) (l : Line) → Shows records k l → NotAfter m (times_of m weights k) (weight_of m l) × NotAfter m (weight_of m l) (times_of m weights k)
