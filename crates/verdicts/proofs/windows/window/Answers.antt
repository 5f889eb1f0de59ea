use Rattle.std.proofs.Common.{◌≡◌, ◌<◌, List, length, map, None, Ok, Err, Option, Result, sym, ap, ◌∙◌, subst, arith, MatchResult}
use Rattle.std.specs.List.{refill}
use Rattle.std.proofs.lemmas.Result.{err_from_is_err_and}
use Rattle.std.proofs.lemmas.List.{take_at}
use Rattle.scales.proofs.Lawful.{laws_of}
use Rattle.bounds.specs.Bounds.{Ready, bounds}
use Rattle.bounds.specs.Ends.{LeastEnd}
use Rattle.bounds.specs.Mirror.{exchanged}
use Rattle.bounds.specs.declared.edge.Edge.{Edge}
use Rattle.bounds.specs.declared.system.Unmet.{Unmet}
use Rattle.lines.specs.Quarrels.{standing}
use Rattle.lines.specs.Timetables.{Clashes, Earliest, Keepable}
use Rattle.tables.specs.Of.{devices_of, picked_of, records_of}
use Rattle.tables.specs.Tables.{Shows}
use Rattle.verdicts.specs.Covering.{Covers}
use Rattle.verdicts.specs.Verdicts.{chosen_lines}
use Rattle.verdicts.specs.Windows.{PrintableEnd}
use Rattle.verdicts.proofs.Carried.{carried}
use Rattle.verdicts.proofs.Covering.{ready}
use Rattle.verdicts.proofs.Standing.{covers_standing}
use Rattle.verdicts.proofs.Windowing.{ready_exchanged, earliest_of, latest_none, latest_free, latest_at}
use Rattle.verdicts.proofs.windows.window.Given as given
use Rattle.verdicts.proofs.windows.window.Goals as goal
use Rattle.verdicts.proofs.windows.window.Goals.{After-cover, After-turn}

-- the edges cover the standing lines of the table
covered : (g : given.Over) (c : After-cover g) → Covers g.S.OrderedSums (devices_of c.args.table.now) c.cover.new.self.weights.now c.cover.new.self.edges.now.items (standing (Shows (records_of c.args.table.now)))
covered g c =
    let m = g.S.OrderedSums in
    let W = c.cover.new.self.weights.now in
    let covers = subst (λ t. Covers m (devices_of t) W c.cover.new.self.edges.now.items (chosen_lines (records_of t) (picked_of c.standing.result) None)) c.new-bench.ensures c.cover.ensures.covers in
    covers_standing m (devices_of c.args.table.now) W c.cover.new.self.edges.now.items (records_of c.args.table.now) _ c.standing.ensures covers

-- the table is the one that was handed in
same_table : (g : given.Over) (c : After-cover g) → c.cover.new.self.table.now ≡ c.args.table.now
same_table g c = ap (λ t. t.now) c.cover.ensures.table ∙ c.new-bench.ensures

pub least_end-requires : goal.least_end-requires
least_end-requires g c =
    let d = goal.at.least_end-requires g c in
    record {
      device = subst (λ t. c.args.device < devices_of t) (sym (same_table g d.After-cover)) c.requires.device;
      ready = subst (λ t. Ready g.S.OrderedSums (devices_of t) c.cover.new.self.weights.now c.cover.new.self.edges.now.items) (sym (same_table g d.After-cover)) (ready _ _ _ _ _ (covered g d.After-cover));
    }

-- what the first search says, of the table that was handed in
first : (g : given.Over) (c : After-cover g) (r : Result (Option g.row.S.Denot) Unmet) → LeastEnd g.S.OrderedSums (devices_of c.cover.new.self.table.now) (bounds g.S.OrderedSums c.cover.new.self.weights.now c.cover.new.self.edges.now.items) c.args.device r
    → MatchResult r (λ end. Keepable g.S.OrderedSums (standing (Shows (records_of c.args.table.now))) × Earliest g.S.OrderedSums (standing (Shows (records_of c.args.table.now))) c.args.device end × PrintableEnd g.S.OrderedSums end) (λ _. Clashes g.S.OrderedSums (standing (Shows (records_of c.args.table.now))))
first g c r least =
    let m = g.S.OrderedSums in
    earliest_of m (laws_of g.met.S.OrderedSums) _ c.cover.new.self.weights.now c.cover.new.self.edges.now.items _ (covered g c) _ c.requires.device r
    (subst (λ t. LeastEnd m (devices_of t) (bounds m c.cover.new.self.weights.now c.cover.new.self.edges.now.items) c.args.device r) (same_table g c) least)

pub returns-in_err-earliest : goal.returns-in_err-earliest
returns-in_err-earliest g c =
    let p = err_from_is_err_and c.from_residual.result c.from_residual.ensures.1 in
    rw p.1 (first g (goal.at.returns-in_err-earliest g c).After-cover (Err c.in_err-earliest.field-0.0) c.in_err-earliest.ensures.least)

-- the second search runs over the exchanged edges
abbrev after_turn : (g : given.Over) (c : After-turn g) → List Edge
after_turn g c = let es = c.least_end.new.self.edges.now.items in refill (length es) es c.turn.new.edges

turned : (g : given.Over) (c : After-turn g) → after_turn g c ≡ map exchanged c.cover.new.self.edges.now.items
turned g c =
    let long : length c.turn.new.edges ≡ length c.least_end.new.self.edges.now.items = omega (arith, c.turn.auto.edges, ap length c.as_mut_slice.ensures.value) in
    take_at c.turn.new.edges _ _ long ∙ c.turn.ensures ∙ ap (map exchanged) (c.as_mut_slice.ensures.value ∙ ap (λ es. es.items) c.least_end.ensures.edges)

same_table_still : (g : given.Over) (c : After-turn g) → c.least_end.new.self.table.now ≡ c.args.table.now
same_table_still g c = ap (λ t. t.now) (c.least_end.ensures.table ∙ c.cover.ensures.table) ∙ c.new-bench.ensures

pub least_end-requires-2 : goal.least_end-requires-2
least_end-requires-2 g c =
    let m = g.S.OrderedSums in
    let n = devices_of c.args.table.now in
    let d = goal.at.least_end-requires-2 g c in
    let table = sym (same_table_still g d.After-turn) in
    record {
      device = subst (λ t. c.args.device < devices_of t) table c.requires.device;
      ready = carried (λ t W es. Ready m (devices_of t) W es) table (sym c.least_end.ensures.weights) (sym (turned g d.After-turn)) (ready_exchanged m n _ _ (ready m n _ _ _ (covered g d.After-cover)));
    }

-- what the second search says, of the table that was handed in
second : (g : given.Over) (c : After-turn g) (r : Result (Option g.row.S.Denot) Unmet) → LeastEnd g.S.OrderedSums (devices_of c.least_end.new.self.table.now) (bounds g.S.OrderedSums c.least_end.new.self.weights.now (after_turn g c)) c.args.device r
    → LeastEnd g.S.OrderedSums (devices_of c.args.table.now) (bounds g.S.OrderedSums c.cover.new.self.weights.now (map exchanged c.cover.new.self.edges.now.items)) c.args.device r
second g c r = carried (λ t W es. LeastEnd g.S.OrderedSums (devices_of t) (bounds g.S.OrderedSums W es) c.args.device r) (same_table_still g c) c.least_end.ensures.weights (turned g c)

pub returns-in_err-least_end : goal.returns-in_err-least_end
returns-in_err-least_end g c =
    let d = goal.at.returns-in_err-least_end g c in
    let p = err_from_is_err_and c.from_residual-in_err-least_end.result c.from_residual-in_err-least_end.ensures.1 in
    rw p.1 (latest_none g.S.OrderedSums (laws_of g.met.S.OrderedSums) _ c.cover.new.self.weights.now c.cover.new.self.edges.now.items _ (covered g d.After-cover) _ c.requires.device c.in_err-least_end.field-0.0 (second g d.After-turn (Err c.in_err-least_end.field-0.0) c.in_err-least_end.ensures.least))

pub opposite-requires : goal.opposite-requires
opposite-requires g c = let at' = rw c.in-Some.is at (second g (goal.at.opposite-requires g c).After-turn (Ok c.in_ok-least_end.field-0) c.in_ok-least_end.ensures.least) in omega (arith, at'.2)

pub returns-in-None : goal.returns-in-None
returns-in-None g c =
    let m = g.S.OrderedSums in
    let d = goal.at.returns-in-None g c in
    let early = first g d.After-cover (Ok c.in_ok-earliest.earliest) c.in_ok-earliest.ensures.least in
    record {
      kept = early.0;
      earliest = early.1;
      latest = latest_free m (laws_of g.met.S.OrderedSums) _ c.cover.new.self.weights.now c.cover.new.self.edges.now.items _ (covered g d.After-cover) _ c.requires.device (rw c.in-None.is at (second g d.After-turn (Ok c.in_ok-least_end.field-0) c.in_ok-least_end.ensures.least));
      printable = (early.2, tt);
    }

pub returns-in-Some : goal.returns-in-Some
returns-in-Some g c =
    let m = g.S.OrderedSums in
    let laws = laws_of g.met.S.OrderedSums in
    let d = goal.at.returns-in-Some g c in
    let early = first g d.After-cover (Ok c.in_ok-earliest.earliest) c.in_ok-earliest.ensures.least in
    let at' = rw c.in-Some.is at (second g d.After-turn (Ok c.in_ok-least_end.field-0) c.in_ok-least_end.ensures.least) in
    record {
      kept = early.0;
      earliest = early.1;
      latest = latest_at m laws _ c.cover.new.self.weights.now c.cover.new.self.edges.now.items _ (covered g d.After-cover) _ c.requires.device c.in-Some.time c.opposite.result c.opposite.ensures at';
      printable = (early.2, omega (arith, at'.2, ap m.size c.opposite.ensures, laws.mirrored (m.means c.in-Some.time)));
    }
