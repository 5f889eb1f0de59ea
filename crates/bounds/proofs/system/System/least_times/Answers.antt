use Rattle.std.proofs.Common.{◌≡◌, suc, ◌+◌, length, sym, ◌∙◌, subst, add-one, arith}
use Rattle.scales.proofs.Lawful.{laws_of}
use Rattle.scales.proofs.Order.{along}
use Rattle.bounds.specs.Bounds.{bounds, times_of}
use Rattle.bounds.specs.Rounds.{Changed}
use Rattle.bounds.proofs.Grounds.{ready_grounded}
use Rattle.bounds.proofs.Progress.{Progress, progress_none, progress_more, arrived_size, arrived_more, settles, runs_out, lifts}
use Rattle.bounds.proofs.Rows.{times_read, passed, failed}
use Rattle.bounds.proofs.system.System.least_times.Given as given
use Rattle.bounds.proofs.system.System.least_times.Goals as goal
use Rattle.bounds.proofs.system.System.least_times.Goals.{After-not_after}

pub loop-round-init : goal.loop-round-init
loop-round-init g c start begun =
    let m = g.S.OrderedSums in
    let laws = laws_of g.met.S.OrderedSums in
    let bs = bounds m c.args.self.now.weights.now c.args.self.now.edges.now in
    progress_none m laws c.args.self.now.devices bs (ready_grounded m laws c.args.self.now.devices c.args.self.now.weights.now c.args.self.now.edges.now c.args.self.now.ready) start (times_of m c.begin.new.times) begun

pub raise_all-requires : goal.raise_all-requires
raise_all-requires g c =
    let m = g.S.OrderedSums in
    let laws = laws_of g.met.S.OrderedSums in
    let n = c.args.self.now.devices in
    let bs = bounds m c.args.self.now.weights.now c.args.self.now.edges.now in
    let start = m.means c.args.start in
    let long : length c.loop-round.times ≡ n + 1 = c.loop-round.auto.times ∙ c.begin.auto.times ∙ c.requires.rows.0 in
    record {
      rows = (long, c.loop-round.auto.spare ∙ c.requires.rows.1);
      small = λ x l. omega (arith, arrived_size m laws n bs (ready_grounded m laws n c.args.self.now.weights.now c.args.self.now.edges.now c.args.self.now.ready) start c.loop-round._round (times_of m c.loop-round.times) 2000000000 c.requires.size (c.loop-round.invariant start c.begin.ensures).arrived x (omega arith), c.args.self.now.few, c.loop-round-test.true);
    }

pub returns-then-settled : goal.returns-then-settled
returns-then-settled g c =
    let m = g.S.OrderedSums in
    let laws = laws_of g.met.S.OrderedSums in
    let n = c.args.self.now.devices in
    let bs = bounds m c.args.self.now.weights.now c.args.self.now.edges.now in
    let start = m.means c.args.start in
    let long : length c.loop-round.times ≡ n + 1 = c.loop-round.auto.times ∙ c.begin.auto.times ∙ c.requires.rows.0 in
    settles m laws n bs (ready_grounded m laws n c.args.self.now.weights.now c.args.self.now.edges.now c.args.self.now.ready) start c.loop-round._round (times_of m c.loop-round.times) (times_of m c.raise_all.new.new) c.raise_all.ensures (c.loop-round.invariant start c.begin.ensures)
    (omega (arith, c.loop-round-test.true))
    (λ x l. c.if-settled.ensures x (omega arith))

-- the origin's new time
lifted : (g : given.Over) (c : After-not_after g) → times_of g.S.OrderedSums c.raise_all.new.new c.args.self.now.devices ≡ g.S.OrderedSums.means c.index-spare-self.result
lifted g c =
    times_read g.S.OrderedSums c.raise_all.new.new c.args.self.now.devices c.index-spare-self.result
    (omega (arith, c.raise_all.auto.new, c.loop-round.auto.spare, c.requires.rows.1))
    c.index-spare-self.is

pub returns-then-not-not_after : goal.returns-then-not-not_after
returns-then-not-not_after g c =
    let m = g.S.OrderedSums in
    let laws = laws_of g.met.S.OrderedSums in
    let n = c.args.self.now.devices in
    let bs = bounds m c.args.self.now.weights.now c.args.self.now.edges.now in
    let start = m.means c.args.start in
    let grounded = ready_grounded m laws n c.args.self.now.weights.now c.args.self.now.edges.now c.args.self.now.ready in
    lifts m laws n bs grounded start (suc c.loop-round._round) (times_of m c.raise_all.new.new) (omega (arith, c.loop-round-test.true))
    (arrived_more m laws n bs grounded start c.loop-round._round (times_of m c.loop-round.times) (times_of m c.raise_all.new.new) c.raise_all.ensures (c.loop-round.invariant start c.begin.ensures))
    (λ le. failed m (m.means c.index-spare-self.result) (m.means c.zero.result) c.if-not-not_after.ensures (along m laws (lifted g (goal.at.returns-then-not-not_after g c).After-not_after) (sym c.zero.ensures) le))

pub loop-round-preserved : goal.loop-round-preserved
loop-round-preserved g c start begun =
    let m = g.S.OrderedSums in
    let laws = laws_of g.met.S.OrderedSums in
    let n = c.args.self.now.devices in
    let r = c.loop-round._round in
    let bs = bounds m c.args.self.now.weights.now c.args.self.now.edges.now in
    let t = times_of m c.loop-round.times in
    let u = times_of m c.raise_all.new.new in
    let long : length c.loop-round.times ≡ n + 1 = c.loop-round.auto.times ∙ c.begin.auto.times ∙ c.requires.rows.0 in
    let change : Changed m (n + 1) t u = subst (λ k. Changed m k t u) long c.if-settled.ensures in
    let down = along m laws (sym (lifted g (goal.at.loop-round-preserved g c).After-not_after)) c.zero.ensures (passed m (m.means c.index-spare-self.result) (m.means c.zero.result) c.if-not-not_after.ensures) in
    let next = progress_more m laws n bs (ready_grounded m laws n c.args.self.now.weights.now c.args.self.now.edges.now c.args.self.now.ready) start r t u c.raise_all.ensures (c.loop-round.invariant start begun) change down in
    subst (λ row. Progress m n bs start (r + 1) (times_of m row)) (sym c.copy_from_slice.ensures.after)
    (subst (λ q. Progress m n bs start q u) (sym (add-one r)) next)

pub returns : goal.returns
returns g c =
    let m = g.S.OrderedSums in
    let laws = laws_of g.met.S.OrderedSums in
    let n = c.args.self.now.devices in
    let bs = bounds m c.args.self.now.weights.now c.args.self.now.edges.now in
    let start = m.means c.args.start in
    runs_out m laws n bs (ready_grounded m laws n c.args.self.now.weights.now c.args.self.now.edges.now c.args.self.now.ready) start c.loop-round._round (times_of m c.loop-round.times) (omega (arith, c.loop-round-test.false)) (c.loop-round.invariant start c.begin.ensures)
