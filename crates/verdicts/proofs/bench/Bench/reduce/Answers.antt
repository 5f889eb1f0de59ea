use Rattle.std.proofs.Common.{◌+◌, sym, refl, ap, ◌∙◌, subst, arith}
use Rattle.tables.specs.Of.{records_of, picked_of}
use Rattle.verdicts.specs.Choosing.{Dropped, Reduced}
use Rattle.verdicts.proofs.Reducing.{reduced_none, reduced_skip, reduced_more}
use Rattle.verdicts.proofs.bench.Bench.reduce.Goals as goal
use Rattle.verdicts.proofs.bench.Bench.reduce.Goals.{then-has, else-has}

pub loop-number-init : goal.loop-number-init
loop-number-init g c = (refl, reduced_none _ _ _ c.requires.clash)

pub loop-number-preserved : goal.loop-number-preserved
loop-number-preserved g c =
    let m = g.S.OrderedSums in
    let records = records_of c.args.self.now.table.now in
    let first = picked_of c.args.choice.now in
    let i = c.loop-number.number in
    elim c.if-has.branch [
      | then-has w ↦ (
        ap (λ b. b.table) w.self-is ∙ w.drop_idle.ensures.table ∙ c.loop-number.invariant.0,
        subst (λ p. Reduced m records first (picked_of p) (i + 1)) (sym w.choice-is) (reduced_more m records first _ _ i (subst (λ t. Dropped m (records_of t.now) i (picked_of c.loop-number.choice) (picked_of w.drop_idle.new.choice)) c.loop-number.invariant.0 w.drop_idle.ensures.dropped) c.loop-number.invariant.1),
      )
      | else-has w ↦ (
        ap (λ b. b.table) w.self-is ∙ c.loop-number.invariant.0,
        subst (λ p. Reduced m records first (picked_of p) (i + 1)) (sym w.choice-is) (reduced_skip m records first _ i (sym w.if-has.ensures) c.loop-number.invariant.1),
      )
    ]

pub returns-clause-reduced : goal.returns-clause-reduced
returns-clause-reduced g c =
    let r = c.loop-number.invariant.1 in
    record { within = r.within; clash = r.clash; needed = λ k h. r.needed k (omega (arith, c.loop-number-test.false)) }
