use Rattle.std.proofs.Common.{◌≤◌, map, subst, arith}
use Rattle.std.specs.List.{AllByRecursion}
use Rattle.std.proofs.ByRecursion.{All-get_or, all-has, All-map, All-more}
use Rattle.std.proofs.lemmas.List.{length-map, take_all}
use Rattle.bounds.specs.Bounds.{Fit, largest}
use Rattle.bounds.proofs.tests.system.Goals as goal

pub loop-edge-preserved : goal.loop-edge-preserved
loop-edge-preserved g c =
    let m = g.S.OrderedSums in
    let row = c.args.weights.now.row.now in
    let short = All-map (λ t. m.size t ≤ largest) m.means row c.args.weights.now.light in
    All-more (Fit m c.args.devices row) c.args.edges.now c.loop-edge.edge-index _ c.loop-edge-test.true c.loop-edge.invariant
    (record {
      at_in = c.if-edge-devices.false;
      from_in = c.if-edge-devices-2.false;
      weight_in = c.if-edge-weights.false;
      short = All-get_or (λ t. m.size t ≤ largest) (map m.means row) _ m.zero (omega (arith, length-map row m.means, c.if-edge-weights.false)) short;
    })

pub invariant_of-result : goal.invariant_of-result
invariant_of-result g c = record {
  few = c.requires;
  ready = λ e has.
      let P = Fit g.S.OrderedSums c.args.devices c.args.weights.now.row.now in
      all-has P c.args.edges.now e (subst (AllByRecursion P) (take_all c.loop-edge.edge-index c.args.edges.now c.loop-edge-test.false) c.loop-edge.invariant) has;
}
