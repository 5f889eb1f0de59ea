use Rattle.std.proofs.Common.{◌≡◌, ◌≤◌, take, drop}
use Rattle.tables.specs.Naming.{Named}
use Rattle.tables.proofs.choice.Choice.write.Given as goal

abbrev pub invariant-loop-number : goal.invariant-loop-number
invariant-loop-number l = (l.count ≤ l.number) × Named l.self.picked l.number (take l.count l.names) × (drop l.count l.names ≡ drop l.count l.initial.names)
