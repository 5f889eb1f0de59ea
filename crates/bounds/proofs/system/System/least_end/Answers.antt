use Rattle.std.proofs.Common.{◌≡◌, ◌+◌, ◌≤◌, sym, refl, ap, subst, arith}
use Rattle.scales.specs.Order.{NotAfter}
use Rattle.scales.proofs.Lawful.{laws_of}
use Rattle.scales.proofs.Order.{along}
use Rattle.bounds.specs.Bounds.{bounds, times_of, largest, strides}
use Rattle.bounds.proofs.Grounds.{ready_grounded}
use Rattle.bounds.proofs.Holding.{free, held_least}
use Rattle.bounds.proofs.Rows.{times_read, passed, failed}
use Rattle.bounds.proofs.Walks.{low_fewer}
use Rattle.bounds.proofs.system.System.least_end.Given as given
use Rattle.bounds.proofs.system.System.least_end.Goals as goal
use Rattle.bounds.proofs.system.System.least_end.Goals.{After-index-times-device}

pub returns-in_default : goal.returns-in_default
returns-in_default g c =
    let m = g.S.OrderedSums in
    c.in_default.ensures.anywhere (low_fewer m (laws_of g.met.S.OrderedSums) largest (c.args.self.now.devices + 2) strides (m.means c.args.start) (omega (arith, c.args.self.now.few)) c.requires.low)

-- the device's time
found : (g : given.Over) (c : After-index-times-device g) → times_of g.S.OrderedSums c.least_times.new.times c.args.device ≡ g.S.OrderedSums.means c.index-times-device.result
found g c =
    times_read g.S.OrderedSums c.least_times.new.times c.args.device c.index-times-device.result
    (omega (arith, c.least_times.auto.times, c.requires.rows.0, c.requires.within))
    c.index-times-device.is

-- it is not large
small : (g : given.Over) (c : After-index-times-device g) → g.S.OrderedSums.size (g.S.OrderedSums.means c.index-times-device.result) ≤ 3000000000
small g c = omega (arith, c.in-Ok.ensures.small c.args.device (omega (arith, c.requires.within)), ap g.S.OrderedSums.size (found g c), c.args.self.now.few, c.requires.size)

pub held_by_start-requires : goal.held_by_start-requires
held_by_start-requires g c = small g (goal.at.held_by_start-requires g c).After-index-times-device

pub returns-then-held_by_start : goal.returns-then-held_by_start
returns-then-held_by_start g c =
    let m = g.S.OrderedSums in
    let laws = laws_of g.met.S.OrderedSums in
    let n = c.args.self.now.devices in
    let start = m.means c.args.start in
    let v = m.means c.index-times-device.result in
    let bs = bounds m c.args.self.now.weights.now c.args.self.now.edges.now in
    let read = found g (goal.at.returns-then-held_by_start g c).After-index-times-device in
    free m laws start c.requires.low n c.args.self.now.few bs (ready_grounded m laws n c.args.self.now.weights.now c.args.self.now.edges.now c.args.self.now.ready) (times_of m c.least_times.new.times) c.in-Ok.ensures c.args.device
    (subst (λ z. NotAfter m (m.plus z z) start) (sym read) (passed m (m.plus v v) start c.if-held_by_start.ensures))

pub returns : goal.returns
returns g c =
    let m = g.S.OrderedSums in
    let laws = laws_of g.met.S.OrderedSums in
    let n = c.args.self.now.devices in
    let start = m.means c.args.start in
    let v = m.means c.index-times-device.result in
    let t = times_of m c.least_times.new.times in
    let bs = bounds m c.args.self.now.weights.now c.args.self.now.edges.now in
    let here = (goal.at.returns g c).After-index-times-device in
    let read = found g here in (
      (t, c.in-Ok.ensures.solves, read),
      λ s solves. along m laws read refl
          (held_least m laws start c.requires.low n c.args.self.now.few bs (ready_grounded m laws n c.args.self.now.weights.now c.args.self.now.edges.now c.args.self.now.ready) t c.in-Ok.ensures c.args.device (omega (arith, c.requires.within))
          (λ h. failed m (m.plus v v) start c.if-held_by_start.ensures (subst (λ z. NotAfter m (m.plus z z) start) read h))
          s solves),
      small g here,
    )
