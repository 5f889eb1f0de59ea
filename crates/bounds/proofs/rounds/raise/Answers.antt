use Rattle.std.proofs.Common.{◌≡◌, ◌-◌, ◌<◌, cond, length, sym, ap, ◌∙◌, subst, arith}
use Rattle.scales.specs.Order.{NotAfter}
use Rattle.scales.proofs.Lawful.{laws_of}
use Rattle.bounds.specs.Bounds.{times_of, bound_of, asked}
use Rattle.bounds.proofs.Grounds.{fit_grounded}
use Rattle.bounds.proofs.Rows.{times_read, failed, raised_set}
use Rattle.bounds.proofs.rounds.raise.Given as given
use Rattle.bounds.proofs.rounds.raise.Goals as goal
use Rattle.bounds.proofs.rounds.raise.Goals.{After-index-old-edge, After-not_after}

-- the bound's time
meant : (g : given.Over) (c : After-index-old-edge g) → g.S.OrderedSums.means c.directed-by.result ≡ (bound_of g.S.OrderedSums c.args.weights.now c.args.edge).by
meant g c =
    let m = g.S.OrderedSums in
    let read = times_read m c.args.weights.now c.args.edge.weight c.index-weights-edge.result c.requires.fit.weight_in c.index-weights-edge.is in
    subst (λ x. m.means c.directed-by.result ≡ cond c.args.edge.opposed (m.opposed x) x) (sym read) c.directed-by.ensures

-- the old time that was read
stood_from : (g : given.Over) (c : After-index-old-edge g) → times_of g.S.OrderedSums c.args.old.now c.args.edge.from ≡ g.S.OrderedSums.means c.index-old-edge.result
stood_from g c = times_read g.S.OrderedSums c.args.old.now c.args.edge.from c.index-old-edge.result (omega (arith, c.requires.fit.from_in, c.requires.some)) c.index-old-edge.is

pub sum-asked-requires : goal.sum-asked-requires
sum-asked-requires g c =
    let m = g.S.OrderedSums in
    let inside : c.args.edge.from < length c.args.old.now = omega (arith, c.requires.fit.from_in, c.requires.some) in
    let short = (fit_grounded m (laws_of g.met.S.OrderedSums) (length c.args.old.now - 1) c.args.weights.now c.args.edge c.requires.fit).short in
    omega (arith, c.requires.small c.args.edge.from inside, ap m.size (stood_from g c), ap m.size (meant g c), short)

-- what the sum means
summed : (g : given.Over) (c : After-index-old-edge g) (v : g.row.S.Denot) → g.S.OrderedSums.means v ≡ g.S.OrderedSums.plus (g.S.OrderedSums.means c.index-old-edge.result) (g.S.OrderedSums.means c.directed-by.result) → g.S.OrderedSums.means v ≡ asked g.S.OrderedSums (times_of g.S.OrderedSums c.args.old.now) (bound_of g.S.OrderedSums c.args.weights.now c.args.edge)
summed g c v is = let m = g.S.OrderedSums in is ∙ (λ i. m.plus (sym (stood_from g c) i) (meant g c i))

-- the new time that was read
stood_at : (g : given.Over) (c : After-not_after g) → times_of g.S.OrderedSums c.args.new.now c.args.edge.at ≡ g.S.OrderedSums.means c.index-new-edge.result
stood_at g c = times_read g.S.OrderedSums c.args.new.now c.args.edge.at c.index-new-edge.result (omega (arith, c.requires.rows, c.requires.fit.at_in, c.requires.some)) c.index-new-edge.is

pub returns-then-not-not_after : goal.returns-then-not-not_after
returns-then-not-not_after g c =
    let m = g.S.OrderedSums in
    let d = goal.at.returns-then-not-not_after g c in
    raised_set m (laws_of g.met.S.OrderedSums) (bound_of m c.args.weights.now c.args.edge) c.args.old.now c.args.new.now c.sum-asked.result
    (omega (arith, c.requires.rows, c.requires.fit.at_in, c.requires.some))
    (summed g d.After-index-old-edge c.sum-asked.result c.sum-asked.ensures)
    (λ le. failed m (m.means c.sum-asked.result) (m.means c.index-new-edge.result) c.if-not-not_after.ensures (subst (NotAfter m (m.means c.sum-asked.result)) (stood_at g d.After-not_after) le))
