use Rattle.std.proofs.Common.{◌<◌, ◌≤◌, length, subst, arith}
use Rattle.bounds.proofs.Rows.{times_read}
use Rattle.printing.proofs.Joins.{joined_more}
use Rattle.printing.specs.Fields.{time_field}
use Rattle.writing.proofs.Staying.{stays_then}
use Rattle.printing.proofs.fields.push_times.Goals as goal

pub push_time-requires-clause-size : goal.push_time-requires-clause-size
push_time-requires-clause-size g c =
    let m = g.S.OrderedSums in
    let within : c.loop-time.time-index < length c.args.times.now = omega arith in
    subst (λ t. m.size t ≤ 1000000000000) (times_read m c.args.times.now c.loop-time.time-index c.time-item.result within c.time-item.is) (c.requires.printable c.loop-time.time-index within)

pub loop-time-preserved : goal.loop-time-preserved
loop-time-preserved g c =
    let so_far = c.loop-time.invariant in
    let pushed = c.push_time.ensures in
    record {
      bound = omega (arith, so_far.bound, pushed.bound);
      wrote = joined_more (time_field g.S.OrderedSums) c.args.times.now c.loop-time.time-index c.time-item.result _ _ _ (omega arith) c.time-item.is so_far.wrote pushed.wrote;
      stays = stays_then so_far.stays pushed.stays;
    }
