use Rattle.std.proofs.Common.{◌≡◌, ◌++◌, length, take, drop, sym, ap, ◌∙◌, arith, length-take}
use Rattle.std.proofs.lemmas.List.{take_at, drop_at}
use Rattle.tables.proofs.Facts.{proper}
use Rattle.tables.specs.Of.{devices_of, records_of}
use Rattle.verdicts.specs.Verdicts.{floor}
use Rattle.verdicts.proofs.Chosen.{chosen_limited}
use Rattle.verdicts.proofs.Standing.{first_front, times_front}
use Rattle.verdicts.proofs.bench.Bench.shows.Goals as goal

pub returns-then-kept-clause-shown : goal.returns-then-kept-clause-shown
returns-then-kept-clause-shown g c =
    let m = g.S.OrderedSums in
    let table = c.args.self.now.table.now in
    let n = devices_of table in
    let k = c.devices-devices.result in
    let all : k ≡ n = c.devices-devices.ensures ∙ ap (λ t. devices_of t.now) c.keepable-kept.ensures.table in
    let row = c.keepable-kept.new.self.row.now in
    let copied = c.copy_from_slice.new.self in
    let long : length copied ≡ n = omega (arith, c.copy_from_slice.ensures.len, length-take k c.args.times.now, c.requires.buffer, all) in
    let same : take n (copied ++ drop k c.args.times.now) ≡ take n row = take_at copied _ n long ∙ c.copy_from_slice.ensures.after ∙ ap (λ j. take j row) all in
    let verdict = c.if-kept.ensures.verdict in
    rw c.if-kept.true (
      first_front m n (floor m) _ _ _ (chosen_limited n (records_of table) _ c.args.more (proper table) c.requires.limited) (λ x h. sym (times_front m n _ _ same x h)) verdict.0,
      (λ x h. omega (arith, verdict.1 x h, ap m.size (times_front m n _ _ same x h))),
      drop_at copied _ n long ∙ ap (λ j. drop j c.args.times.now) all,
    )
