use Rattle.std.proofs.Common.{◌≡◌, ℕ, ◌<◌, false, length, get_or, is_some, None}
use Rattle.tables.proofs.table.Table.standing.Given as goal

abbrev pub invariant-loop-number : goal.invariant-loop-number
invariant-loop-number l = (length l.picked ≡ 400) × ((k : ℕ) → k < l.number → get_or l.picked k false ≡ is_some (get_or l.self.lines k None))
