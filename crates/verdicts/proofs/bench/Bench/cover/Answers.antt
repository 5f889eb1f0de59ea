use Rattle.std.proofs.Common.{◌≤◌, ◌++◌, set, Some, sym, ap, ◌∙◌, subst, arith, length-set}
use Rattle.std.proofs.lemmas.Option.{MatchOption-at_some}
use Rattle.lines.specs.Bounding.{edges_of}
use Rattle.lines.specs.Proper.{Limited}
use Rattle.scales.proofs.Lawful.{laws_of}
use Rattle.tables.proofs.Facts.{full, proper}
use Rattle.tables.specs.Of.{devices_of, records_of, picked_of}
use Rattle.verdicts.specs.Covering.{Covers}
use Rattle.verdicts.specs.Verdicts.{chosen_lines}
use Rattle.verdicts.proofs.Chosen.{covers_chosen, covers_also, weighed_also}
use Rattle.verdicts.proofs.Weighing.{weighed, weighted}
use Rattle.verdicts.proofs.bench.Bench.cover.Given as given
use Rattle.verdicts.proofs.bench.Bench.cover.Goals as goal
use Rattle.verdicts.proofs.bench.Bench.cover.Goals.{In-Some}

-- the line more is within its limits
limited : (g : given.Over) (c : In-Some g) → Limited (devices_of c.args.self.now.table.now) c.in-Some.line
limited g c = MatchOption-at_some _ (Limited (devices_of c.args.self.now.table.now)) c.in-Some.line c.in-Some.is c.requires.limited

pub weight-requires : goal.weight-requires
weight-requires g c = (limited g (goal.at.weight-requires g c).In-Some).constant

pub invariant_of-self-in-Some : goal.invariant_of-self-in-Some
invariant_of-self-in-Some g c =
    let m = g.S.OrderedSums in
    let laws = laws_of g.met.S.OrderedSums in
    let bench = c.args.self.now in
    let table = bench.table.now in
    let W = bench.weights.now in
    let all = weighed m laws (records_of table) W (devices_of table) (proper table) bench.weighed in
    let lim = limited g (goal.at.invariant_of-self-in-Some g c).In-Some in
    record {
      row_full = bench.row_full;
      spare_full = bench.spare_full;
      places = subst (λ k. 401 ≤ k) (sym (length-set W 400 c.weight.result)) bench.places;
      weighed = weighted m laws (records_of table) _ (weighed_also m (devices_of table) (records_of table) (picked_of c.args.choice.now) (full table) (proper table) W all _ c.gather_into.ensures.gathered c.in-Some.line c.weight.result c.weight.ensures lim bench.places);
    }

pub returns-in-Some-clause-covers : goal.returns-in-Some-clause-covers
returns-in-Some-clause-covers g c =
    let m = g.S.OrderedSums in
    let bench = c.args.self.now in
    let table = bench.table.now in
    let n = devices_of table in
    let picked = picked_of c.args.choice.now in
    let W = bench.weights.now in
    let line = c.in-Some.line in
    let all = weighed m (laws_of g.met.S.OrderedSums) (records_of table) W n (proper table) bench.weighed in
    let lim = limited g (goal.at.returns-in-Some-clause-covers g c).In-Some in
    let wrote = c.append.ensures ∙ ap (λ es. c.gather_into.new.edges.items ++ es) (c.edges.ensures ∙ ap (λ k. edges_of k 400 line) c.devices.ensures) in
    rw c.in-Some.is (subst (λ es. Covers m n (set W 400 c.weight.result) es (chosen_lines (records_of table) picked (Some line))) (sym wrote) (covers_also m n (records_of table) picked (full table) (proper table) W all _ c.gather_into.ensures.gathered line c.weight.result c.weight.ensures lim bench.places))

pub returns-in_default-clause-covers : goal.returns-in_default-clause-covers
returns-in_default-clause-covers g c =
    let m = g.S.OrderedSums in
    let bench = c.args.self.now in
    let table = bench.table.now in
    let all = weighed m (laws_of g.met.S.OrderedSums) (records_of table) bench.weights.now (devices_of table) (proper table) bench.weighed in
    rw c.in_default.is (covers_chosen m (devices_of table) (records_of table) (picked_of c.args.choice.now) (full table) (proper table) bench.weights.now all _ c.gather_into.ensures.gathered (omega (arith, bench.places)))
