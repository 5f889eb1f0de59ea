use Rattle.std.proofs.Common.{ℕ, sym, ◌∙◌, subst}
use Rattle.engine.proofs.Facts.{below}
use Rattle.engine.specs.Books.{devices_of, sheet_of}
use Rattle.printing.specs.Shown.{Shown}
use Rattle.answering.proofs.Showing.{shown}
use Rattle.answering.proofs.responses.answer.Goals as goal

pub put_line-requires-clause-shown : goal.put_line-requires-clause-shown
put_line-requires-clause-shown g c =
    let m = g.S.OrderedSums in
    let book = c.args.book.now in
    let made = c.perform.ensures in
    subst (λ (n : ℕ). Shown m n c.perform.new.step) (sym (c.devices.ensures ∙ made.devices))
    (shown m (devices_of book) (sheet_of book) _ c.perform.new.step (below book) made.lengths made.lawful)
