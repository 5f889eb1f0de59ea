use Rattle.std.proofs.Common.{◌*◌, ◌≤◌}
use Rattle.arrayvec.specs.ArrayVec.{array_vec_len}
use Rattle.tables.specs.Gathering.{Gathered}
use Rattle.tables.proofs.table.Table.gather_into.Given as goal

abbrev pub invariant-loop-number : goal.invariant-loop-number
invariant-loop-number l = (array_vec_len l.edges ≤ 2 * l.number) × Gathered l.self.devices l.self.lines l.choice.picked l.number l.edges.items
