use Rattle.std.proofs.Common.{◌≡◌, ◌≤◌, Ok, Option, vec_items, ap, ◌∙◌, subst, arith}
use Rattle.std.proofs.lemmas.Result.{err_from_is_err_and}
use Rattle.engine.proofs.Facts.{few}
use Rattle.engine.specs.Books.{devices_of}
use Rattle.lives.proofs.Stands.{nothing_stands}
use Rattle.lines.specs.declared.call.Call.{Call}
use Rattle.scales.proofs.Lawful.{laws_of}
use Rattle.session.specs.Headings.{byte_at}
use Rattle.session.specs.Stages.{Gives, bytes_of}
use Rattle.session.specs.declared.heading.Heading.{Heading}
use Rattle.session.specs.declared.reader.Commands.{Commands}
use Rattle.answering.proofs.Going.{begun, ended, faulted, one_more}
use Rattle.answering.proofs.run.converse.Goals as goal

pub loop-step-init : goal.loop-step-init
loop-step-init g c =
    let s = c.args.commands in
    let book = c.in-Ok.ensures in
    let step = c.in_ok-step.ensures in
    let devices : devices_of c.in-Ok.book ≡ byte_at (bytes_of s) 5 = book.begins.2 ∙ ap (λ (h : Heading). h.devices) c.heading.ensures ∙ c.requires.devices in
    let enough : byte_at (bytes_of s) 5 ≤ 200 = omega (arith, few c.in-Ok.book, devices) in
    begun g.S.OrderedSums c.in-Ok.book c.in_ok-step.step s (vec_items c.args.out.now) c.requires devices (nothing_stands _ book.begins.3) (record { times = omega (arith, step.times, enough); names = step.names; work = step.work })

pub returns-in_err-call : goal.returns-in_err-call
returns-in_err-call g c =
    let p = err_from_is_err_and c.from_residual-in_err-call.result c.from_residual-in_err-call.ensures.1 in
    rw (p.1, p.2) (faulted g.S.OrderedSums (laws_of g.met.S.OrderedSums) c.loop-step.invariant c.in_err-call.field-0.0 c.in_err-call.ensures.gives)

pub loop-step-preserved : goal.loop-step-preserved
loop-step-preserved g c =
    let made = c.in_ok-add_answer.ensures in
    let gives = subst (λ (next : Option (Call × Commands)). Gives c.loop-step.reader (Ok next)) c.in-Some.is c.in_ok-call.ensures.gives in
    one_more g.S.OrderedSums (laws_of g.met.S.OrderedSums) c.loop-step.invariant c.in-Some.call c.add_answer.new.book c.add_answer.new.step made.performed c.in-Some.rest gives
    (vec_items c.add_answer.new.out) made.added

pub returns : goal.returns
returns g c =
    let gives = subst (λ (next : Option (Call × Commands)). Gives c.loop-step.reader (Ok next)) c.in_default-2.is c.in_ok-call.ensures.gives in
    ended g.S.OrderedSums (laws_of g.met.S.OrderedSums) c.loop-step.invariant gives
