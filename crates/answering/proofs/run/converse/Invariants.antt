use Rattle.std.proofs.Common.{vec_items}
use Rattle.session.specs.Stages.{bytes_of, left}
use Rattle.answering.proofs.Going.{Going}
use Rattle.answering.proofs.run.converse.Given as goal

abbrev pub invariant-loop-step : goal.invariant-loop-step
invariant-loop-step g l = Going g.S.OrderedSums (bytes_of l.initial.reader) l.book l.step l.reader (vec_items l.initial.out) (vec_items l.out)

abbrev pub decreases-loop-step : goal.decreases-loop-step
decreases-loop-step g l = left l.reader
