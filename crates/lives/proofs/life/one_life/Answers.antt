use Rattle.std.proofs.Common.{refl}
use Rattle.scales.proofs.Lawful.{laws_of}
use Rattle.lives.proofs.Determined.{one_life}
use Rattle.lives.proofs.life.one_life.Goals as goal

pub returns : goal.returns
returns g c = record { one = one_life g.S.OrderedSums (laws_of g.met.S.OrderedSums); value = refl }
