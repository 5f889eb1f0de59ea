use Rattle.std.proofs.Common.{negsuc, sym, ap, subst, arith, lit≤}
use Rattle.scales.specs.Low.{Low}
use Rattle.scales.proofs.Lawful.{laws_of}
use Rattle.scales.proofs.Depth.{low_reading}
use Rattle.scales.proofs.low.low_start.Goals as goal

pub returns-clause-size : goal.returns-clause-size
returns-clause-size g c = omega (arith, ap g.S.OrderedSums.size c.reading.ensures, g.met.S.OrderedSums.near (negsuc 999999999))

pub returns-clause-low : goal.returns-clause-low
returns-clause-low g c =
    let m = g.S.OrderedSums in
    subst (Low m 1000150 406) (sym c.reading.ensures) (low_reading m (laws_of g.met.S.OrderedSums) 1000150 406 1000000000 (lit≤ tt))
