use Rattle.std.proofs.Common.{◌≡◌}
use Rattle.verdicts.specs.Choosing.{Reduced}
use Rattle.tables.specs.Of.{records_of, picked_of}
use Rattle.verdicts.proofs.bench.Bench.reduce.Given as goal

abbrev pub invariant-loop-number : goal.invariant-loop-number
invariant-loop-number g l = (l.self.table ≡ l.initial.self.table) × Reduced g.S.OrderedSums (records_of l.initial.self.table.now) (picked_of l.initial.choice) (picked_of l.choice) l.number
