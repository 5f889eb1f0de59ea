use Rattle.std.proofs.Common.{◌≡◌, true, drop, Some, sym, refl, ap, ◌∙◌, subst, inl, inr}
use Rattle.lines.proofs.Same.{first_same}
use Rattle.lines.specs.Operators.{opposites}
use Rattle.lines.specs.Quarrels.{standing}
use Rattle.lines.specs.Timetables.{Clashes, and_also}
use Rattle.scales.proofs.Lawful.{laws_of}
use Rattle.tables.specs.Of.{devices_of, picked_of, records_of}
use Rattle.verdicts.specs.Following.{under_operator}
use Rattle.tables.specs.Tables.{Shows}
use Rattle.verdicts.specs.Verdicts.{Shown, chosen_lines, floor}
use Rattle.verdicts.proofs.Opposing.{also_chosen, chosen_also, clash_also, opposites_clash}
use Rattle.verdicts.proofs.following.follows.Given as given
use Rattle.verdicts.proofs.following.follows.Goals as goal
use Rattle.verdicts.proofs.following.follows.Goals.{Else-shows}

-- the first opposite clashes with the standing lines
first_clash : (g : given.Over) (c : Else-shows g) → Clashes g.S.OrderedSums (and_also (standing (Shows (records_of c.args.table.now))) (under_operator c.args.line (opposites c.args.line.op).0))
first_clash g c =
    let m = g.S.OrderedSums in
    let table = c.args.table.now in
    let clash = subst (λ t. Clashes m (chosen_lines (records_of t) (picked_of c.standing-standing.result) (Some (under_operator c.args.line c.opposites-first.result.0)))) c.new-bench.ensures c.if-shows.ensures.shown.0 in
    subst (λ p. Clashes m (and_also (standing (Shows (records_of table))) (under_operator c.args.line p.0))) c.opposites-first.ensures
    (clash_also (records_of table) _ c.standing-standing.ensures _ m clash)

pub returns-then-shows : goal.returns-then-shows
returns-then-shows g c =
    let m = g.S.OrderedSums in
    let table = c.args.table.now in
    let all = c.standing-standing.ensures in
    let shown = subst (λ t. Shown m (devices_of t) (chosen_lines (records_of t) (picked_of c.standing-standing.result) (Some (under_operator c.args.line c.opposites-first.result.0))) c.args.times.now true c.shows.new.times) c.new-bench.ensures c.if-shows.ensures.shown in (
      (_, inl (ap (λ p. under_operator c.args.line p.0) c.opposites-first.ensures), first_same m _ _ (chosen_also (records_of table) _ all _) (also_chosen (records_of table) _ all _) (devices_of table) (floor m) _ shown.0),
      shown.1,
      shown.2,
    )

pub returns-in_default : goal.returns-in_default
returns-in_default g c = (
  opposites_clash g.S.OrderedSums (laws_of g.met.S.OrderedSums) _ c.args.line (first_clash g (goal.at.returns-in_default g c).Else-shows) (λ p e. absurd (c.in_default.not-Some p (ap (λ q. q.1) c.opposites-first.ensures ∙ e))),
  c.if-shows.ensures.shown.1,
)

pub returns-then-shows-2 : goal.returns-then-shows-2
returns-then-shows-2 g c =
    let m = g.S.OrderedSums in
    let table = c.args.table.now in
    let all = c.standing-standing.ensures in
    let shown = subst (λ t. Shown m (devices_of t) (chosen_lines (records_of t) (picked_of c.standing-standing.result) (Some (under_operator c.args.line c.in-Some.second))) c.shows.new.times true c.shows-2.new.times) (ap (λ t. t.now) c.shows.ensures.table ∙ c.new-bench.ensures) c.if-shows-2.ensures.shown in (
      (_, inr (c.in-Some.second, sym (ap (λ q. q.1) c.opposites-first.ensures) ∙ c.in-Some.is, first_clash g (goal.at.returns-then-shows-2 g c).Else-shows, refl), first_same m _ _ (chosen_also (records_of table) _ all _) (also_chosen (records_of table) _ all _) (devices_of table) (floor m) _ shown.0),
      shown.1,
      shown.2 ∙ ap (drop (devices_of table)) c.if-shows.ensures.shown.1,
    )

pub returns : goal.returns
returns g c =
    let m = g.S.OrderedSums in
    let table = c.args.table.now in
    let clash = subst (λ t. Clashes m (chosen_lines (records_of t) (picked_of c.standing-standing.result) (Some (under_operator c.args.line c.in-Some.second)))) (ap (λ t. t.now) c.shows.ensures.table ∙ c.new-bench.ensures) c.if-shows-2.ensures.shown.0 in
    let second = clash_also (records_of table) _ c.standing-standing.ensures _ m clash in (
      opposites_clash m (laws_of g.met.S.OrderedSums) _ c.args.line (first_clash g (goal.at.returns g c).Else-shows)
          (λ p e.
          let same : c.in-Some.second ≡ p = let a = ap (λ q. q.1) c.opposites-first.ensures in let b = c.in-Some.is in cc in
          subst (λ q. Clashes m (and_also (standing (Shows (records_of table))) (under_operator c.args.line q))) same second),
      c.if-shows-2.ensures.shown.1 ∙ c.if-shows.ensures.shown.1,
    )
