use Rattle.std.proofs.Common.{◌≡◌, ◌-◌, length, sym, ◌∙◌, subst, arith}
use Rattle.std.proofs.ByRecursion.{has_get_or}
use Rattle.scales.proofs.Lawful.{laws_of}
use Rattle.bounds.specs.Bounds.{Ready}
use Rattle.bounds.proofs.Partial.{partial_more, partial_all}
use Rattle.bounds.proofs.system.System.raise_all.Goals as goal

pub raise-requires : goal.raise-requires
raise-requires g c =
    let edges = c.args.self.now.edges.now in
    let last : c.args.self.now.devices ≡ length c.args.old.now - 1 = omega (arith, c.requires.rows.0) in
    record {
      rows = c.loop-edge.auto.new ∙ c.copy_from_slice.ensures.len ∙ c.requires.rows.1 ∙ sym c.requires.rows.0;
      fit = subst (λ k. Ready g.S.OrderedSums k c.args.self.now.weights.now edges) last c.args.self.now.ready _ (has_get_or edges c.loop-edge.edge-index _ c.loop-edge-test.true);
      some = omega (arith, c.requires.rows.0);
      small = c.requires.small;
    }

pub loop-edge-preserved : goal.loop-edge-preserved
loop-edge-preserved g c =
    partial_more g.S.OrderedSums (laws_of g.met.S.OrderedSums) c.args.self.now.weights.now c.args.self.now.edges.now c.args.old.now _ _ c.loop-edge.edge-index _ c.loop-edge-test.true c.raise.ensures c.loop-edge.invariant

pub returns : goal.returns
returns g c =
    partial_all g.S.OrderedSums (laws_of g.met.S.OrderedSums) c.args.self.now.weights.now c.args.self.now.edges.now c.args.old.now _ c.loop-edge.edge-index c.loop-edge-test.false c.loop-edge.invariant
