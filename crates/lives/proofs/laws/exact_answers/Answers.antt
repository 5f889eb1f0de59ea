use Rattle.std.proofs.Common.{refl}
use Rattle.lives.proofs.Exact.{exact_answers}
use Rattle.lives.proofs.laws.exact_answers.Goals as goal

pub returns : goal.returns
returns g c = record { exact = exact_answers g.S.OrderedSums; value = refl }
