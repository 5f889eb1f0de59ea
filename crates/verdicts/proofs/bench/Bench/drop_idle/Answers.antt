use Rattle.std.proofs.Common.{true, false, set, None, sym, ap, ◌∙◌, subst, inr}
use Rattle.lines.specs.Timetables.{Keepable}
use Rattle.tables.specs.Of.{records_of, picked_of}
use Rattle.verdicts.specs.Verdicts.{chosen_lines}
use Rattle.verdicts.proofs.Reducing.{restored}
use Rattle.verdicts.proofs.bench.Bench.drop_idle.Goals as goal

pub returns-then-keepable-clause-dropped : goal.returns-then-keepable-clause-dropped
returns-then-keepable-clause-dropped g c =
    let back = c.put-then-keepable.ensures ∙ ap (λ p. set p c.args.number true) c.put.ensures ∙ restored (picked_of c.args.choice.now) c.args.number c.requires.chosen in
    let first = c.if-keepable.ensures.verdict.0 in
    inr (back, subst (λ p. Keepable g.S.OrderedSums (chosen_lines (records_of c.args.self.now.table.now) p None)) (c.put.ensures ∙ ap (λ p. set p c.args.number false) (sym back)) (_, first.keeps))
