use Rattle.std.proofs.Common.{arith}
use Rattle.tables.proofs.Facts.{few}
use Rattle.verdicts.proofs.bench.Bench.least_end.Goals as goal

pub invariant_of-system : goal.invariant_of-system
invariant_of-system g c = record { few = omega (arith, few c.args.self.now.table.now, c.devices-devices.ensures); ready = rw (c.devices-devices.ensures, c.as_slice.ensures.value) c.requires.ready }
