use Rattle.std.proofs.Common.{true, None, refl, sym, ap, ◌∙◌, subst, arith, length-take}
use Rattle.lines.proofs.Same.{first_same}
use Rattle.lines.specs.Timetables.{Clashes}
use Rattle.tables.proofs.Facts.{full}
use Rattle.tables.specs.Of.{devices_of, picked_of, records_of}
use Rattle.verdicts.specs.Choosing.{Reduced}
use Rattle.verdicts.specs.Verdicts.{Shown, chosen_lines, floor}
use Rattle.verdicts.proofs.Standing.{standing_chosen, chosen_standing, quarrel}
use Rattle.verdicts.proofs.settling.settle.Goals as goal

pub reduce-requires : goal.reduce-requires
reduce-requires g c =
    record { clash = subst (λ t. Clashes g.S.OrderedSums (chosen_lines (records_of t.now) (picked_of c.standing-choice.result) None)) (sym c.shows.ensures.table) c.if-shows.ensures.shown.0 }

pub returns-then-shows : goal.returns-then-shows
returns-then-shows g c =
    let m = g.S.OrderedSums in
    let table = c.args.table.now in
    let all = c.standing-choice.ensures in
    let shown = subst (λ t. Shown m (devices_of t) (chosen_lines (records_of t) (picked_of c.standing-choice.result) None) c.args.times.now true c.shows.new.times) c.new-bench.ensures c.if-shows.ensures.shown in
    (first_same m _ _ (chosen_standing (records_of table) _ all) (standing_chosen (records_of table) _ all) (devices_of table) (floor m) _ shown.0, shown.1, shown.2, refl)

pub returns : goal.returns
returns g c =
    let m = g.S.OrderedSums in
    let table = c.args.table.now in
    let reduced = subst (λ t. Reduced m (records_of t) (picked_of c.standing-choice.result) (picked_of c.reduce.new.choice) 400) (ap (λ t. t.now) c.shows.ensures.table ∙ c.new-bench.ensures) c.reduce.ensures.reduced in (
      quarrel m (records_of table) _ _ _ c.standing-choice.ensures reduced c.write.ensures.named (full table),
      omega (arith, length-take c.write.result c.write.new.names, c.write.ensures.few, c.write.auto.names, c.requires.buffers.1),
      c.write.ensures.rest,
      c.if-shows.ensures.shown.1,
    )
