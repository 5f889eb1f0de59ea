use Rattle.bounds.specs.Bounds.{bounds, times_of}
use Rattle.bounds.specs.Rounds.{Begun}
use Rattle.bounds.proofs.Progress.{Progress}
use Rattle.bounds.proofs.system.System.least_times.Given as goal

-- of whatever start the rounds began at
abbrev pub invariant-loop-round : goal.invariant-loop-round
invariant-loop-round g l =
    let m = g.S.OrderedSums in
    (start : m.Time) → Begun m l.self.devices start (times_of m l.initial.times) → Progress m l.self.devices (bounds m l.self.weights.now l.self.edges.now) start l._round (times_of m l.times)
