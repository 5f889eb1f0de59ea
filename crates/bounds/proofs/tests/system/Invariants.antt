use Rattle.std.proofs.Common.{take}
use Rattle.std.specs.List.{AllByRecursion}
use Rattle.bounds.specs.Bounds.{Fit}
use Rattle.bounds.proofs.tests.system.Given as goal

abbrev pub invariant-loop-edge : goal.invariant-loop-edge
invariant-loop-edge g l = AllByRecursion (Fit g.S.OrderedSums l.devices l.weights.row.now) (take l.edge-index l.edges)
