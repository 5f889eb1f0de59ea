use Rattle.std.proofs.Common.{arith}
use Rattle.std.proofs.lemmas.List.{get_or_default}
use Rattle.printing.proofs.Joins.{joined_more}
use Rattle.printing.specs.Fields.{number_field}
use Rattle.writing.proofs.Staying.{stays_then}
use Rattle.printing.proofs.fields.push_numbers.Goals as goal

pub loop-number-preserved : goal.loop-number-preserved
loop-number-preserved c =
    let so_far = c.loop-number.invariant in
    let pushed = c.push_field.ensures in
    record {
      bound = omega (arith, so_far.bound, pushed.bound);
      wrote = joined_more number_field c.args.numbers.now c.loop-number.number-index _ _ _ _ (omega arith) (get_or_default c.args.numbers.now c.loop-number.number-index 0 _ (omega arith)) so_far.wrote pushed.wrote;
      stays = stays_then so_far.stays pushed.stays;
    }
