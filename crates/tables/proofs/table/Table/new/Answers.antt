use Rattle.std.proofs.Common.{refl, arith}
use Rattle.tables.proofs.Records.{empty_sound}
use Rattle.tables.proofs.table.Table.new.Goals as goal

pub invariant_of-result : goal.invariant_of-result
invariant_of-result c = record { some = omega arith; few = omega arith; full = refl; sound = empty_sound _ 400 }
