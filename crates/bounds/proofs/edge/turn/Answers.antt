use Rattle.std.proofs.Common.{set, ap, ◌∙◌, arith}
use Rattle.std.proofs.lemmas.List.Edits.{map_over_more}
use Rattle.std.proofs.lemmas.List.{get_or_default}
use Rattle.bounds.specs.Mirror.{exchanged}
use Rattle.bounds.proofs.edge.turn.Goals as goal

pub loop-edge-preserved : goal.loop-edge-preserved
loop-edge-preserved c =
    let row = c.loop-edge.edges in
    let i = c.loop-edge.edge-index in
    ap (set row i) c.exchanged.ensures
    ∙ map_over_more exchanged c.args.edges.now row i _ c.loop-edge-test.true c.loop-edge.invariant (get_or_default row i _ _ (omega (arith, c.loop-edge.auto.edges, c.loop-edge-test.true)))
