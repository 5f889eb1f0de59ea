use Rattle.std.proofs.Common.{◌≢◌, refl, ◌∙◌, arith, rules}
use Rattle.bounds.proofs.Rows.{filled, times_set_same, times_set_other}
use Rattle.bounds.proofs.rounds.begin.Goals as goal

pub returns : goal.returns
returns g c =
    let m = g.S.OrderedSums in
    let row = c.fill_with.new.self in
    let n = c.args.devices in
    record {
      devices = λ x h.
          let ne : x ≢ n = omega arith in
          times_set_other m row n x c.zero.result ne ∙ filled m _ (m.means c.args.start) _ (λ y q k. search rules) row _ _ refl c.fill_with.ensures.ran.1 x (omega (arith, c.fill_with.ensures.len, c.requires));
      origin = times_set_same m row n c.zero.result (omega (arith, c.requires, c.fill_with.ensures.len)) ∙ c.zero.ensures;
    }
