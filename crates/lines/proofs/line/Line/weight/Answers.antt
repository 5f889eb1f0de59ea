use Rattle.std.proofs.Common.{◌≡◌, ap, arith, rules}
use Rattle.lines.specs.Bounding.{number_of}
use Rattle.lines.proofs.Exact.{weighs, number_small}
use Rattle.scales.proofs.Lawful.{laws_of}
use Rattle.lines.proofs.line.Line.weight.Goals as goal

pub sum-requires : goal.sum-requires
sum-requires g c =
    let m = g.S.OrderedSums in
    let laws = laws_of g.met.S.OrderedSums in
    let number : g.S.OrderedSums.means c.reading-number.result ≡ g.S.OrderedSums.reading (number_of c.args.self.right) = search rules in
    omega (arith, ap m.size c.step.ensures, laws.fine, ap m.size c.opposite.ensures, laws.mirrored (m.means c.reading-number.result), ap m.size number, number_small m laws c.args.self.right c.requires)

pub returns-in-Before : goal.returns-in-Before
returns-in-Before g c = weighs _ (laws_of g.met.S.OrderedSums) _ _ c.requires (search rules)

pub returns-in-NotAfter : goal.returns-in-NotAfter
returns-in-NotAfter g c = weighs _ (laws_of g.met.S.OrderedSums) _ _ c.requires (search rules)

pub returns-in-With : goal.returns-in-With
returns-in-With g c = weighs _ (laws_of g.met.S.OrderedSums) _ _ c.requires (search rules)

pub returns-in-After : goal.returns-in-After
returns-in-After g c = weighs _ (laws_of g.met.S.OrderedSums) _ _ c.requires (search rules)
