use Rattle.std.proofs.Common.{◌<◌, ◌++◌, map, length, sym, refl, ◌∙◌, subst, arith}
use Rattle.std.proofs.lemmas.List.{take_all, append-nil}
use Rattle.engine.specs.Books.{devices_of, sheet_of}
use Rattle.scales.proofs.Lawful.{laws_of}
use Rattle.lives.specs.Changes.{SameLengths}
use Rattle.lives.specs.Lives.{ShowsAll, Lawful}
use Rattle.lives.specs.Standing.{made}
use Rattle.lives.proofs.Turns.{turn_on, turn_shows, turn_lawful, turn_rest}
use Rattle.lives.proofs.life.go_on.Goals as goal

pub loop-step-init : goal.loop-step-init
loop-step-init g c =
    (refl, (λ past h. subst (ShowsAll (sheet_of c.args.book.now)) (sym (append-nil past)) h), (λ past f i h d. absurd (omega arith)), (λ i d h. refl), (λ i h d. absurd (omega arith)))

pub loop-step-preserved : goal.loop-step-preserved
loop-step-preserved g c =
    let m = g.S.OrderedSums in
    let laws = laws_of g.met.S.OrderedSums in
    let n = devices_of c.args.book.now in
    let within : c.loop-step.step-index < length c.loop-step.steps = omega arith in
    let same = c.loop-step.invariant.0 in
    let xs = c.loop-step.steps in
    let i = c.loop-step.step-index in
    let s = c.step-item.result in
    let t = c.perform.new.step in
    let done =
    subst (λ v. Lawful m v (sheet_of c.loop-step.book) s t) same
    (subst (λ v. Lawful m (devices_of c.loop-step.book) (sheet_of c.loop-step.book) v t) (sym c.step-item.is) c.perform.ensures.lawful) in (
      c.perform.ensures.devices ∙ same,
      (λ past f. turn_shows m laws n _ past c.args.steps.now xs i s t within (c.loop-step.invariant.1 past f) done _ (c.perform.ensures.stands _ (c.loop-step.invariant.1 past f))),
      (λ past f. turn_lawful m laws n _ past c.args.steps.now xs i s t within (c.loop-step.invariant.1 past f) done c.step-item.is c.loop-step.invariant.3 (c.loop-step.invariant.2 past f)),
      turn_rest m laws c.args.steps.now xs i t c.loop-step.invariant.3,
      turn_on (λ _. SameLengths) c.args.steps.now xs i s t within c.step-item.is c.loop-step.invariant.3 (subst (λ v. SameLengths v t) (sym c.step-item.is) c.perform.ensures.lengths) c.loop-step.invariant.4,
    )

pub returns : goal.returns
returns g c =
    record {
      devices = c.loop-step.invariant.0;
      lengths = λ i d h. c.loop-step.invariant.4 i (omega arith) d;
      lived = λ past f. record { all = c.loop-step.auto.steps; each = λ i d h. c.loop-step.invariant.2 past f i (omega arith) d };
      stands = λ past f. subst (λ v. ShowsAll (sheet_of c.loop-step.book) (past ++ map made v)) (take_all c.loop-step.step-index c.loop-step.steps (omega arith)) (c.loop-step.invariant.1 past f);
    }
