use Rattle.std.proofs.Common.{refl}
use Rattle.scales.proofs.Lawful.{laws_of}
use Rattle.bounds.proofs.Holding.{lowering}
use Rattle.bounds.proofs.Solutions.{closed, mirrored}
use Rattle.bounds.proofs.laws.solution_laws.Goals as goal

pub returns : goal.returns
returns g c =
    let m = g.S.OrderedSums in
    let laws = laws_of g.met.S.OrderedSums in
    record { closed = closed m laws; mirrored = mirrored m laws; lowered = lowering m laws; value = refl }
