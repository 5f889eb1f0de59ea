-- Laws of pairs that are summed part by part and ordered by the first part, then by the second.
use Rattle.std.specs.Prelude.{◌≡◌, T}
use Rattle.std.proofs.Common.{ap, ◌∙◌, arith}
use Rattle.std.proofs.Math.IntN.{+ℤ_assoc}
use Rattle.std.proofs.lemmas.Int.{ints}
use Rattle.scales.specs.Pairs.{Pair, pair, sum_of, leads}

pub sum_assoc : (x y z : Pair) → sum_of (sum_of x y) z ≡ sum_of x (sum_of y z)
sum_assoc x y z = ap (λ c. pair c (sum_of (sum_of x y) z).steps) (+ℤ_assoc x.ms y.ms z.ms) ∙ ap (pair (sum_of x (sum_of y z)).ms) (+ℤ_assoc x.steps y.steps z.steps)

pub leads_trans : (x y z : Pair) → T (leads x y) → T (leads y z) → T (leads x z)
leads_trans x y z p q = grind (arith, ints)

pub leads_shifted : (x y z : Pair) → T (leads x y) → T (leads (sum_of x z) (sum_of y z))
leads_shifted x y z p = grind (arith, ints)
