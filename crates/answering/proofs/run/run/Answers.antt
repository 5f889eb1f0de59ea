use Rattle.std.proofs.Common.{ℕ, List, [], sym, ◌∙◌, subst}
use Rattle.std.proofs.lemmas.List.{append-nil}
use Rattle.std.proofs.lemmas.Result.{err_from_is_err_and}
use Rattle.scales.specs.contracts.stepless.SteplessOrderedSums.TheImpl as stepless
use Rattle.scales.specs.contracts.ticks.TicksOrderedSums.TheImpl as ticks
use Rattle.session.specs.Headings.{Unopenable}
use Rattle.answering.specs.Transcripts.{Conversed, on_stepless, on_ticks, unopened}
use Rattle.answering.proofs.Running.{code_read, ran_weaker}
use Rattle.answering.proofs.run.run.Goals as goal

pub returns-in_err-commands : goal.returns-in_err-commands
returns-in_err-commands c =
    let p = err_from_is_err_and c.from_residual.result c.from_residual.ensures.1 in
    rw (p.1, p.2)
    ([], unopened (subst (λ (bs : List ℕ). Unopenable bs c.in_err-commands.field-0.0) c.new.ensures c.in_err-commands.ensures), sym (append-nil _))

pub returns-then-code-eq-CODE : goal.returns-then-code-eq-CODE
returns-then-code-eq-CODE c =
    let b = c.in_ok-commands.ensures in
    let code = code_read b c.new.ensures c.heading-code.ensures c.if-code-eq-CODE.true in
    ran_weaker c.converse.result
    (λ f w. (w.0, on_ticks code (subst (λ (bs : List ℕ). Conversed ticks.ghosts bs f w.0) (b.bytes ∙ c.new.ensures) w.1), w.2))
    c.converse.ensures

pub returns-then-code-eq-CODE-2 : goal.returns-then-code-eq-CODE-2
returns-then-code-eq-CODE-2 c =
    let b = c.in_ok-commands.ensures in
    let code = code_read b c.new.ensures c.heading-code.ensures c.if-code-eq-CODE-2.true in
    ran_weaker c.converse-then-code-eq-CODE-2.result
    (λ f w. (w.0, on_stepless code (subst (λ (bs : List ℕ). Conversed stepless.ghosts bs f w.0) (b.bytes ∙ c.new.ensures) w.1), w.2))
    c.converse-then-code-eq-CODE-2.ensures
