use Rattle.std.proofs.Common.{◌≡◌, ◌+◌, ap, ◌∙◌, subst, arith}
use Rattle.scales.proofs.Lawful.{laws_of}
use Rattle.scales.specs.Low.{Low}
use Rattle.bounds.proofs.Walks.{low_fewer}
use Rattle.bounds.specs.Bounds.{bounds, times_of, largest}
use Rattle.bounds.specs.Least.{Searched}
use Rattle.tables.proofs.Facts.{few}
use Rattle.tables.specs.Of.{devices_of}
use Rattle.verdicts.proofs.Carried.{carried}
use Rattle.verdicts.proofs.Covering.{ready, verdict}
use Rattle.verdicts.proofs.bench.Bench.keepable.Goals as goal

pub invariant_of-system : goal.invariant_of-system
invariant_of-system g c =
    let m = g.S.OrderedSums in
    let table = c.args.self.now.table.now in
    let all : c.devices-devices.result ≡ devices_of table = c.devices-devices.ensures ∙ ap (λ t. devices_of t.now) c.cover.ensures.table in
    record {
      few = omega (arith, few table, all);
      ready = rw (all, c.as_slice.ensures.value) (ready m (devices_of table) c.cover.new.self.weights.now c.cover.new.self.edges.now.items _ c.cover.ensures.covers);
    }

pub returns-clause-verdict : goal.returns-clause-verdict
returns-clause-verdict g c =
    let m = g.S.OrderedSums in
    let table = c.args.self.now.table.now in
    let W = c.cover.new.self.weights.now in
    let all : c.devices-devices.result ≡ devices_of table = c.devices-devices.ensures ∙ ap (λ t. devices_of t.now) c.cover.ensures.table in
    rw c.is_ok.ensures.value
    (verdict m (devices_of table) W c.cover.new.self.edges.now.items _ c.cover.ensures.covers _ _ (few table)
    (omega (arith, c.low_start.ensures.size, ap m.size c.low_start.ensures.reads))
    (low_fewer m (laws_of g.met.S.OrderedSums) _ (devices_of table + 2) 406 _ (omega (arith, few table)) (subst (Low m largest 406) c.low_start.ensures.reads c.low_start.ensures.low))
    (carried (λ n es start. Searched m n (bounds m W es) start (times_of m c.least_times.new.times) c.least_times.result) all c.as_slice.ensures.value c.low_start.ensures.reads c.least_times.ensures))
