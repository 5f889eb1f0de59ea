use Rattle.std.proofs.Common.{[], ◌∙◌, subst}
use Rattle.lives.specs.Lives.{Lived}
use Rattle.lives.proofs.Stands.{nothing_stands}
use Rattle.lives.proofs.life.live.Goals as goal

pub returns : goal.returns
returns g c =
    let new = c.in_ok-book.ensures in
    let begun = new.begins in
    let start = nothing_stands _ begun.3 in
    record {
      lived = (
        c.go_on.ensures.devices ∙ begun.2,
        subst (λ n. Lived g.S.OrderedSums n c.args.steps.now c.go_on.new.steps) begun.2 (c.go_on.ensures.lived [] start),
        c.go_on.ensures.stands [] start,
      );
      checks = new.checks;
      lengths = c.go_on.ensures.lengths;
    }
