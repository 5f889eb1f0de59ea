use Rattle.std.proofs.Common.{◌<◌, length, ◌∙◌, arith}
use Rattle.std.proofs.lemmas.List.{take_more_set, drop-set-lt}
use Rattle.tables.proofs.Naming.{named_skip, named_more}
use Rattle.tables.proofs.Rests.{same_further}
use Rattle.tables.proofs.choice.Choice.write.Goals as goal
use Rattle.tables.proofs.choice.Choice.write.Goals.{then-picked, else-picked}

pub loop-number-preserved : goal.loop-number-preserved
loop-number-preserved c =
    let picked = c.args.self.now.picked in
    let i = c.loop-number.number in
    elim c.if-picked.branch [
      | then-picked w ↦
          let lt : c.loop-number.count < length c.loop-number.names = omega arith in (
            omega (arith, w.count-is, c.loop-number.invariant.0),
            rw (w.count-is, w.names-is, take_more_set) (named_more picked i _ w.if-picked.true c.loop-number.invariant.1),
            rw (w.count-is, w.names-is) (drop-set-lt _ c.loop-number.names c.loop-number.count i (omega arith) ∙ same_further c.loop-number.names c.args.names.now c.loop-number.count _ (omega arith) c.loop-number.invariant.2),
          )
      | else-picked w ↦ (
        omega (arith, w.count-is, c.loop-number.invariant.0),
        rw (w.count-is, w.names-is) (named_skip picked i _ w.if-picked.false c.loop-number.invariant.1),
        rw (w.count-is, w.names-is) c.loop-number.invariant.2,
      )
    ]
