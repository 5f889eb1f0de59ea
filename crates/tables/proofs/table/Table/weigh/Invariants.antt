use Rattle.std.proofs.Common.{ℕ, ◌<◌}
use Rattle.tables.specs.Gathering.{Spared}
use Rattle.tables.specs.Tables.{Shows}
use Rattle.lines.specs.Bounding.{Weighs}
use Rattle.lines.specs.declared.line.Line.{Line}
use Rattle.bounds.specs.Bounds.{times_of}
use Rattle.tables.proofs.table.Table.weigh.Given as goal

abbrev pub invariant-loop-number : goal.invariant-loop-number
invariant-loop-number g l =
    Spared g.S.OrderedSums l.self.lines l.initial.weights l.weights
    × ((k : ℕ) → k < l.number → (line : Line) → Shows l.self.lines k line → Weighs g.S.OrderedSums line (times_of g.S.OrderedSums l.weights k))
