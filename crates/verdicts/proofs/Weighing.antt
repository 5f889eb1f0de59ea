-- The times that a workbench holds for its lines are their weights.
use Rattle.std.proofs.Common.{ℕ, List, Option, sym}
use Rattle.lines.proofs.Exact.{weighs}
use Rattle.lines.specs.Proper.{Proper}
use Rattle.lines.specs.declared.line.Line.{Line}
use Rattle.scales.specs.declared.sums.OrderedSums.{Ghosts}
use Rattle.scales.proofs.Lawful.{Laws}
use Rattle.scales.proofs.Order.{same}
use Rattle.tables.specs.Gathering.{Weighed}
use Rattle.tables.specs.Tables.{Shows}
use Rattle.verdicts.specs.Benches.{Weighted}

module _ {S : Type 0} (m : Ghosts S) (laws : Laws m) (records : List (Option Line)) (weights : List S) where
  pub weighted : Weighed m records weights → Weighted m records weights
  weighted w k l shows = let is = (w k l shows).is in (same m laws is, same m laws (sym is))

  pub weighed : (n : ℕ) → ((k : ℕ) (l : Line) → Shows records k l → Proper n l) → Weighted m records weights → Weighed m records weights
  weighed n proper w k l shows = let at = w k l shows in weighs m laws l _ (proper k l shows).limited.constant (laws.antisymmetric _ _ at.0 at.1)
