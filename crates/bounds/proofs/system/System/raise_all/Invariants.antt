use Rattle.bounds.proofs.Partial.{Partial}
use Rattle.bounds.proofs.system.System.raise_all.Given as goal

abbrev pub invariant-loop-edge : goal.invariant-loop-edge
invariant-loop-edge g l = Partial g.S.OrderedSums l.self.weights.now l.self.edges.now l.old l.new l.edge-index
