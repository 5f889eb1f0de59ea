use Rattle.std.proofs.Common.{refl}
use Rattle.lines.proofs.Opposing.{opposed}
use Rattle.scales.proofs.Lawful.{laws_of}
use Rattle.lines.proofs.laws.opposite_laws.Goals as goal

pub returns : goal.returns
returns g c = record { opposed = opposed g.S.OrderedSums (laws_of g.met.S.OrderedSums); value = refl }
