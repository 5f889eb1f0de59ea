use Rattle.std.proofs.Common.{◌≡◌, ◌+◌, ◌*◌, ◌≤◌, ◌++◌, take}
use Rattle.std.specs.List.{flat_map}
use Rattle.printing.specs.Fields.{number_field}
use Rattle.writing.specs.Fronts.{Stays, end_of, written}
use Rattle.printing.proofs.fields.push_numbers.Given as goal

abbrev pub invariant-loop-number : goal.invariant-loop-number
invariant-loop-number l = record {
  bound : end_of l.text ≤ end_of l.initial.text + 6 * l.number-index;
  wrote : written l.text ≡ written l.initial.text ++ flat_map number_field (take l.number-index l.numbers);
  stays : Stays l.initial.text l.text;
}
