use Rattle.std.proofs.Common.{◌+◌, ◌-◌, length, refl, arith, rules}
use Rattle.std.proofs.lemmas.Slice.{drop-put_mid}
use Rattle.writing.proofs.front.Front.push_text.Goals as goal

pub returns-clause-stays : goal.returns-clause-stays
returns-clause-stays c =
    let from = c.args.self.now.end in
    let count = length c.args.text.now in
    record {
      same = refl;
      long = search rules;
      on = omega arith;
      rest = drop-put_mid from (from + count - from) c.args.self.now.buffer.now c.copy_from_slice.new.self (from + count) (omega arith) (omega arith) (omega (arith, c.copy_from_slice.auto.self));
    }
