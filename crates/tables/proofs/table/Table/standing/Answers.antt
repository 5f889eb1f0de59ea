use Rattle.std.proofs.Common.{◌≤◌, false, get_or, is_some, None, sym, ap, ◌∙◌, ⊎_elim, arith}
use Rattle.std.proofs.lemmas.List.{get_or_past}
use Rattle.std.proofs.lemmas.Bool.{cases_lt}
use Rattle.tables.proofs.table.Table.standing.Goals as goal

pub returns : goal.returns
returns c k =
    ⊎_elim
    (λ lt. ap (λ p. get_or p k false) c.of.ensures ∙ c.loop-number.invariant.1 k (omega (arith, c.loop-number-test.false)))
    (λ (past : 400 ≤ k). get_or_past c.of.result.picked k false (omega (arith, c.of.result.full)) ∙ ap is_some (sym (get_or_past c.args.self.now.lines k None (omega (arith, c.args.self.now.full)))))
    (cases_lt k 400)
