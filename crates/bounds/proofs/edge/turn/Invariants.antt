use Rattle.std.proofs.Common.{◌≡◌, ◌++◌, map, take, drop}
use Rattle.bounds.specs.Mirror.{exchanged}
use Rattle.bounds.proofs.edge.turn.Given as goal

abbrev pub invariant-loop-edge : goal.invariant-loop-edge
invariant-loop-edge l = l.edges ≡ map exchanged (take l.edge-index l.initial.edges) ++ drop l.edge-index l.initial.edges
