use Rattle.std.proofs.Common.{◌≡◌, ℕ, length, sym, refl, ◌∙◌, subst, arith}
use Rattle.std.proofs.lemmas.List.{with_items_is}
use Rattle.engine.proofs.Facts.{full, proper}
use Rattle.engine.specs.Books.{devices_of, sheet_of}
use Rattle.engine.specs.Calls.{Settles, FollowsAs, Windows}
use Rattle.scales.proofs.Lawful.{laws_of}
use Rattle.lives.proofs.Carried.{as_long, carried}
use Rattle.lives.proofs.Stands.{after_enter, after_strike, idle}
use Rattle.lives.proofs.Tells.{lawful, enter_answers, strike_answers}
use Rattle.lives.proofs.life.perform.Goals as goal

pub returns-in-Enter : goal.returns-in-Enter
returns-in-Enter g c =
    let m = g.S.OrderedSums in
    let b = c.args.book.now in
    let entered = c.enter-answer.ensures.entered in
    record {
      devices = c.enter-answer.ensures.devices;
      records = rw c.in-Enter.is (c.enter-answer.result, refl, entered);
      lawful = lawful m (laws_of g.met.S.OrderedSums) _ _ _ _ (proper b)
          (refl, rw c.in-Enter.is (c.enter-answer.result, refl, enter_answers _ _ _ _ _ c.enter-answer.result entered, refl, refl));
      lengths = record { times = refl; names = refl; work = refl };
      stands = λ past shows. after_enter _ _ past _ shows (full b) _ c.in-Enter.number c.in-Enter.asked c.enter-answer.result c.in-Enter.is refl entered;
    }

pub returns-in-Strike : goal.returns-in-Strike
returns-in-Strike g c =
    let m = g.S.OrderedSums in
    let b = c.args.book.now in
    let struck = c.strike-answer.ensures.struck in
    record {
      devices = c.strike-answer.ensures.devices;
      records = rw c.in-Strike.is (c.strike-answer.result, refl, struck);
      lawful = lawful m (laws_of g.met.S.OrderedSums) _ _ _ _ (proper b)
          (refl, rw c.in-Strike.is (c.strike-answer.result, refl, strike_answers _ _ _ c.strike-answer.result struck, refl, refl));
      lengths = record { times = refl; names = refl; work = refl };
      stands = λ past shows. after_strike _ _ past _ shows (full b) c.in-Strike.number c.strike-answer.result c.in-Strike.is refl struck;
    }

pub returns-in-Settle : goal.returns-in-Settle
returns-in-Settle g c =
    let m = g.S.OrderedSums in
    let b = c.args.book.now in
    let times = c.as_mut_slice.ensures in
    let names = c.as_mut_slice-in-Settle.ensures in
    let work = c.as_mut_slice-in-Settle-2.ensures in
    record {
      devices = refl;
      records = rw c.in-Settle.is refl;
      lawful = lawful m (laws_of g.met.S.OrderedSums) _ _ _ _ (proper b) (
        refl,
        rw c.in-Settle.is (
          c.settle-answer.result,
          refl,
          carried (λ w t n t' n'. Settles m (devices_of b) (sheet_of b) (length w) t n c.settle-answer.result t' n')
              work.value times.value names.value
              (sym (with_items_is c.args.step.now.times c.settle-answer.new.times (c.settle-answer.auto.times ∙ times.len)))
              (sym (with_items_is c.args.step.now.names c.settle-answer.new.names (c.settle-answer.auto.names ∙ names.len)))
              c.settle-answer.ensures,
        ),
      );
      lengths = record { times = as_long c.args.step.now.times c.settle-answer.new.times; names = as_long c.args.step.now.names c.settle-answer.new.names; work = as_long c.args.step.now.work c.settle-answer.new.work };
      stands = λ past shows. idle _ past _
          (λ j l en. let p = en.1 in let q = c.in-Settle.is in let z : ◌≡◌ {A = ℕ} 0 1 = cc in omega arith)
          (λ j st. let p = st.0 in let q = c.in-Settle.is in let z : ◌≡◌ {A = ℕ} 0 1 = cc in omega arith)
          shows;
    }

pub returns-in-Window : goal.returns-in-Window
returns-in-Window g c =
    let m = g.S.OrderedSums in
    let b = c.args.book.now in
    record {
      devices = refl;
      records = rw c.in-Window.is refl;
      lawful = lawful m (laws_of g.met.S.OrderedSums) _ _ _ _ (proper b) (
        refl,
        rw c.in-Window.is (
          c.window-answer.result,
          refl,
          subst (λ w. Windows m (devices_of b) (sheet_of b) c.in-Window.device (length w) c.window-answer.result) c.as_mut_slice-in-Window.ensures.value c.window-answer.ensures,
          refl,
          refl,
        ),
      );
      lengths = record { times = refl; names = refl; work = as_long c.args.step.now.work c.window-answer.new.work };
      stands = λ past shows. idle _ past _
          (λ j l en. let p = en.1 in let q = c.in-Window.is in let z : ◌≡◌ {A = ℕ} 0 1 = cc in omega arith)
          (λ j st. let p = st.0 in let q = c.in-Window.is in let z : ◌≡◌ {A = ℕ} 0 1 = cc in omega arith)
          shows;
    }

pub returns-in-Follows : goal.returns-in-Follows
returns-in-Follows g c =
    let m = g.S.OrderedSums in
    let b = c.args.book.now in
    let times = c.as_mut_slice-in-Follows.ensures in
    let work = c.as_mut_slice-in-Follows-2.ensures in
    record {
      devices = refl;
      records = rw c.in-Follows.is refl;
      lawful = lawful m (laws_of g.met.S.OrderedSums) _ _ _ _ (proper b) (
        refl,
        rw c.in-Follows.is (
          c.follows-answer.result,
          refl,
          carried (λ w t t' (_ : ℕ) (_ : ℕ). FollowsAs m (devices_of b) (sheet_of b) c.in-Follows.asked (length w) t c.follows-answer.result t')
              work.value times.value
              (sym (with_items_is c.args.step.now.times c.follows-answer.new.times (c.follows-answer.auto.times ∙ times.len)))
              (refl {a = 0}) (refl {a = 0})
              c.follows-answer.ensures,
          refl,
        ),
      );
      lengths = record { times = as_long c.args.step.now.times c.follows-answer.new.times; names = refl; work = as_long c.args.step.now.work c.follows-answer.new.work };
      stands = λ past shows. idle _ past _
          (λ j l en. let p = en.1 in let q = c.in-Follows.is in let z : ◌≡◌ {A = ℕ} 0 1 = cc in omega arith)
          (λ j st. let p = st.0 in let q = c.in-Follows.is in let z : ◌≡◌ {A = ℕ} 0 1 = cc in omega arith)
          shows;
    }
