use Rattle.std.proofs.Common.{ℕ, sym, ap}
use Rattle.session.specs.Headings.{right}
use Rattle.session.proofs.heading.is_right.Goals as goal

pub returns-in-2 : goal.returns-in-2
returns-in-2 c = ap (λ (place : ℕ). right place c.args.byte) (sym c.in-2.is)
