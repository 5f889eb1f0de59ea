use Rattle.std.proofs.Common.{◌≡◌, ◌+◌, ◌*◌, ◌≤◌, ◌++◌, take}
use Rattle.printing.specs.Fields.{time_fields}
use Rattle.writing.specs.Fronts.{Stays, end_of, written}
use Rattle.printing.proofs.fields.push_times.Given as goal

abbrev pub invariant-loop-time : goal.invariant-loop-time
invariant-loop-time g l = record {
  bound : end_of l.text ≤ end_of l.initial.text + 33 * l.time-index;
  wrote : written l.text ≡ written l.initial.text ++ time_fields g.S.OrderedSums (take l.time-index l.times);
  stays : Stays l.initial.text l.text;
}
