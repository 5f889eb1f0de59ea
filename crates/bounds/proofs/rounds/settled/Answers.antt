use Rattle.std.proofs.Common.{rules}
use Rattle.std.proofs.lemmas.Iterator.{YieldsList-from_slice, YieldsList-from_zip, cases_from_all}
use Rattle.bounds.proofs.Pairs.{Kept, Risen, compared}
use Rattle.bounds.proofs.Rows.{passed, failed}
use Rattle.bounds.proofs.rounds.settled.Goals as goal

pub returns : goal.returns
returns g c =
    let m = g.S.OrderedSums in
    compared m c.args.old.now c.args.new.now c.all.result c.requires
    (cases_from_all c.all.new.self _ _ (Kept m) (Risen m) c.all.ensures.ran (YieldsList-from_zip (YieldsList-from_slice c.args.old.now (cc)) (YieldsList-from_slice c.args.new.now c.zip.ensures.second.0)) (λ x q k. search (rules, passed m)) (λ x q k. search (rules, failed m)))
