-- What stood before a call and its buffers settle its answer, but for a clash set.
use Rattle.std.proofs.Common.{◌≡◌, ℕ, ◌<◌, ◌≤◌, List, [], ◌∷◌, map, length, drop, Some, None, Ok, Err, vec_items, Option, Result, sym, refl, ap, ◌∙◌, subst, inl, inr, ⊎_elim}
use Rattle.std.proofs.lemmas.List.{drop-map}
use Rattle.std.proofs.lemmas.Bool.{cases_lt}
use Rattle.bounds.specs.Bounds.{times_of}
use Rattle.engine.specs.Calls.{Settles, Windows, FollowsAs}
use Rattle.engine.specs.Checks.{Check, Granted, Refused, enter_checks, strike_checks, settle_checks, window_checks, follows_checks}
use Rattle.engine.specs.declared.refusal.Refusal.{Refusal}
use Rattle.lines.proofs.Writing.{writes_one}
use Rattle.lines.specs.Asking.{Writes}
use Rattle.lines.specs.Keeping.{Timetable, Keeps, KeepsAll}
use Rattle.lines.specs.Quarrels.{Sheet, standing}
use Rattle.lines.specs.Timetables.{First, Clashes, Keepable, Earliest, Latest, and_also}
use Rattle.lines.specs.declared.asked.Asked.{Asked}
use Rattle.lines.specs.declared.line.Line.{Line}
use Rattle.scales.specs.declared.sums.OrderedSums.{Ghosts}
use Rattle.scales.specs.Order.{NotAfter}
use Rattle.scales.proofs.Lawful.{Laws}
use Rattle.verdicts.specs.Following.{OppositeTo, FollowedAs, under_operator}
use Rattle.verdicts.specs.declared.following.Followed.{Followed}
use Rattle.verdicts.specs.declared.following.Followed.TheVariants.{Yes, No}
use Rattle.verdicts.specs.declared.settling.Settled.{Settled}
use Rattle.verdicts.specs.declared.settling.Settled.TheVariants.{Times, Clash}
use Rattle.lives.specs.Answers.{Answers, Makes, EnterAnswers, StrikeAnswers}
use Rattle.lives.specs.Determined.{SameEnd, AlikeReply, the_same, both_clash, same_window, Alike}
use Rattle.lines.specs.declared.call.Call.{Call}
use Rattle.lines.specs.declared.call.Call.TheVariants.{Enter, Strike, Settle, Window, Follows}
use Rattle.lives.specs.declared.steps.Reply.TheVariants as reply
use Rattle.lives.specs.declared.steps.Step.{Step}
use Rattle.lives.proofs.Exact.{same_behind}
use Rattle.lives.proofs.Tells.{opposite_breaks, quarrel_clashes}

not_both : (cs : List Check) (r : Refusal) → Granted cs → Refused cs r → ⊥
not_both [] r g h = h
not_both (c ∷ cs) r g h = ⊎_elim (λ a. g.0 a.0) (λ n. not_both cs r g.1 n.1) h

one_refusal : (cs : List Check) (r q : Refusal) → Refused cs r → Refused cs q → r ≡ q
one_refusal [] r q h k = absurd h
one_refusal (c ∷ cs) r q h k =
    ⊎_elim
    (λ a. ⊎_elim (λ b. a.1 ∙ sym b.1) (λ n. absurd (n.0 a.0)) k)
    (λ n. ⊎_elim (λ b. absurd (n.0 b.0)) (λ p. one_refusal cs r q n.1 p.1) k)
    h

enter_one : (n : ℕ) (sheet : Sheet) (k : ℕ) (a : Asked) (r q : Result (Unit {0}) Refusal) → EnterAnswers n sheet k a r → EnterAnswers n sheet k a q → r ≡ q
enter_one n sheet k a (Ok u) (Ok v) f g = refl
enter_one n sheet k a (Ok u) (Err e) f g = absurd (not_both (enter_checks n sheet k a) e f g)
enter_one n sheet k a (Err e) (Ok v) f g = absurd (not_both (enter_checks n sheet k a) e g f)
enter_one n sheet k a (Err e) (Err h) f g = ap Err (one_refusal (enter_checks n sheet k a) e h f g)

strike_one : (sheet : Sheet) (k : ℕ) (r q : Result (Unit {0}) Refusal) → StrikeAnswers sheet k r → StrikeAnswers sheet k q → r ≡ q
strike_one sheet k (Ok u) (Ok v) f g = refl
strike_one sheet k (Ok u) (Err e) f g = absurd (not_both (strike_checks sheet k) e f g)
strike_one sheet k (Err e) (Ok v) f g = absurd (not_both (strike_checks sheet k) e g f)
strike_one sheet k (Err e) (Err h) f g = ap Err (one_refusal (strike_checks sheet k) e h f g)

module _ {S : Type 0} (m : Ghosts S) where
  -- behind their front two buffers hold the same times
  times_behind : (n : ℕ) (a b : List S) → drop n a ≡ drop n b → (x : ℕ) → n ≤ x → times_of m a x ≡ times_of m b x
  times_behind n a b e x =
      same_behind n (map m.means a) (map m.means b) (drop-map m.means n a ∙ ap (map m.means) e ∙ sym (drop-map m.means n b)) x m.zero

  module _ (laws : Laws m) where
    first_one : (n : ℕ) (floor : m.Time) (lines : Line → Type 0) (s t : Timetable m) → First m n floor lines s → First m n floor lines t → (x : ℕ) → x < n → s x ≡ t x
    first_one n floor lines s t f g x h = laws.antisymmetric _ _ (f.least t g.keeps g.above x h) (g.least s f.keeps f.above x h)

    -- buffers with the same first timetable at their front, and otherwise as they were
    same_times : (n : ℕ) (floor : m.Time) (lines : Line → Type 0) (times a b : List S) → First m n floor lines (times_of m a) → First m n floor lines (times_of m b) → drop n a ≡ drop n times → drop n b ≡ drop n times → (x : ℕ) → times_of m a x ≡ times_of m b x
    same_times n floor lines times a b f g p q x =
        ⊎_elim (first_one n floor lines (times_of m a) (times_of m b) f g x) (times_behind n a b (p ∙ sym q) x) (cases_lt x n)

    earliest_one : (lines : Line → Type 0) (x : ℕ) (p q : Option S) → Keepable m lines → Earliest m lines x p → Earliest m lines x q → SameEnd m p q
    earliest_one lines x None None k f g = tt
    earliest_one lines x None (Some w) k f g = let s = f g.0.0 g.0.1 in s.2 (subst (λ z. NotAfter m z (s.0 x)) (sym g.0.2) (g.1 s.0 s.1))
    earliest_one lines x (Some v) None k f g = let s = g f.0.0 f.0.1 in s.2 (subst (λ z. NotAfter m z (s.0 x)) (sym f.0.2) (f.1 s.0 s.1))
    earliest_one lines x (Some v) (Some w) k f g =
        laws.antisymmetric _ _ (subst (NotAfter m (m.means v)) g.0.2 (f.1 g.0.0 g.0.1)) (subst (NotAfter m (m.means w)) f.0.2 (g.1 f.0.0 f.0.1))

    latest_one : (lines : Line → Type 0) (x : ℕ) (p q : Option S) → Keepable m lines → Latest m lines x p → Latest m lines x q → SameEnd m p q
    latest_one lines x None None k f g = tt
    latest_one lines x None (Some w) k f g = let s = f g.0.0 g.0.1 in s.2 (subst (NotAfter m (s.0 x)) (sym g.0.2) (g.1 s.0 s.1))
    latest_one lines x (Some v) None k f g = let s = g f.0.0 f.0.1 in s.2 (subst (NotAfter m (s.0 x)) (sym f.0.2) (f.1 s.0 s.1))
    latest_one lines x (Some v) (Some w) k f g =
        laws.antisymmetric _ _ (subst (λ z. NotAfter m z (m.means w)) f.0.2 (g.1 f.0.0 f.0.1)) (subst (λ z. NotAfter m z (m.means v)) g.0.2 (f.1 g.0.0 g.0.1))

    opposite_one : (n : ℕ) (floor : m.Time) (lines : Line → Type 0) (l o p : Line) (s t : Timetable m) → OppositeTo m lines l o → OppositeTo m lines l p → First m n floor (and_also lines o) s → First m n floor (and_also lines p) t → o ≡ p
    opposite_one n floor lines l o p s t a b f g =
        ⊎_elim
        (λ x. ⊎_elim (λ y. x ∙ sym y) (λ y. absurd (y.2 s (subst (λ z. KeepsAll m s (and_also lines z)) x f.keeps))) b)
        (λ x. ⊎_elim (λ y. absurd (x.2 t (subst (λ z. KeepsAll m t (and_also lines z)) y g.keeps))) (λ y. x.3 ∙ (let e = x.1 in let h = y.1 in let same : x.0 ≡ y.0 = cc in ap (under_operator l) same) ∙ sym y.3) b)
        a

    -- no line follows and does not
    yes_no : (n : ℕ) (sheet : Sheet) (a : Asked) (times one times' : List S) → ((l : Line) × Writes a l × FollowedAs m n sheet l times Yes one) → ((l : Line) × Writes a l × FollowedAs m n sheet l times No times') → ⊥
    yes_no n sheet a times one times' f g =
        let same = writes_one a f.0 g.0 f.1 g.1 in
        let shown = g.2.0 in
        opposite_breaks m laws (standing sheet) g.0 shown.0 (times_of m times') shown.1 (shown.2.keeps shown.0 (inr refl))
        (subst (Keeps m (times_of m times')) same (f.2.0 (times_of m times') (λ l in'. shown.2.keeps l (inl in'))))

    module _ (n : ℕ) (sheet : Sheet) (s t u : Step S) where
      settle_alike : (r q : Result Settled Refusal) → t.reply ≡ Some (reply.Settled r) → u.reply ≡ Some (reply.Settled q)
          → Settles m n sheet (length (vec_items s.work)) (vec_items s.times) (vec_items s.names) r (vec_items t.times) (vec_items t.names)
          → Settles m n sheet (length (vec_items s.work)) (vec_items s.times) (vec_items s.names) q (vec_items u.times) (vec_items u.names)
          → Alike m t u
      settle_alike (Ok Times) (Ok Times) e d f g = record {
        answer = rw (e, d) the_same;
        times = same_times n _ _ _ _ _ f.1.0 g.1.0 f.1.2 g.1.2;
        names = λ _. f.1.3 ∙ sym g.1.3;
      }
      settle_alike (Ok Times) (Ok (Clash c)) e d f g = absurd (quarrel_clashes m sheet _ g.1.0 _ f.1.0.keeps)
      settle_alike (Ok (Clash c)) (Ok Times) e d f g = absurd (quarrel_clashes m sheet _ f.1.0 _ g.1.0.keeps)
      settle_alike (Ok (Clash c)) (Ok (Clash k)) e d f g = record {
        answer = rw (e, d) both_clash;
        times = λ x. ap (λ r. times_of m r x) (f.1.3 ∙ sym g.1.3);
        names = λ no'. absurd (no' c e);
      }
      settle_alike (Ok v) (Err k) e d f g = absurd (not_both (settle_checks n (length (vec_items s.times)) (length (vec_items s.names)) (length (vec_items s.work))) k f.0 g.0)
      settle_alike (Err k) (Ok v) e d f g = absurd (not_both (settle_checks n (length (vec_items s.times)) (length (vec_items s.names)) (length (vec_items s.work))) k g.0 f.0)
      settle_alike (Err j) (Err k) e d f g = record {
        answer = rw (e, d, one_refusal (settle_checks n (length (vec_items s.times)) (length (vec_items s.names)) (length (vec_items s.work))) j k f.0 g.0) the_same;
        times = λ x. ap (λ r. times_of m r x) (f.1 ∙ sym g.1);
        names = λ _. f.2 ∙ sym g.2;
      }

      -- a call that leaves its times and names as they were
      untouched : AlikeReply m t.reply u.reply → vec_items t.times ≡ vec_items s.times → vec_items t.names ≡ vec_items s.names → vec_items u.times ≡ vec_items s.times → vec_items u.names ≡ vec_items s.names → Alike m t u
      untouched a p q p' q' = record { answer = a; times = λ x. ap (λ r. times_of m r x) (p ∙ sym p'); names = λ _. q ∙ sym q' }

      window_answer : (x work : ℕ) (r q : Result (Option S × Option S) Refusal) → Windows m n sheet x work r → Windows m n sheet x work q → AlikeReply m (Some (reply.Windowed r)) (Some (reply.Windowed q))
      window_answer x work (Ok v) (Ok w) f g =
          same_window (earliest_one (standing sheet) x v.0 w.0 f.1.kept f.1.earliest g.1.earliest) (latest_one (standing sheet) x v.1 w.1 f.1.kept f.1.latest g.1.latest)
      window_answer x work (Ok v) (Err k) f g = absurd (not_both (window_checks n x work (Clashes m (standing sheet))) k f.0 g)
      window_answer x work (Err k) (Ok v) f g = absurd (not_both (window_checks n x work (Clashes m (standing sheet))) k g.0 f)
      window_answer x work (Err j) (Err k) f g = rw (one_refusal (window_checks n x work (Clashes m (standing sheet))) j k f g) the_same

      follows_alike : (a : Asked) (r q : Result Followed Refusal) → t.reply ≡ Some (reply.Followed r) → u.reply ≡ Some (reply.Followed q)
          → FollowsAs m n sheet a (length (vec_items s.work)) (vec_items s.times) r (vec_items t.times)
          → FollowsAs m n sheet a (length (vec_items s.work)) (vec_items s.times) q (vec_items u.times)
          → vec_items t.names ≡ vec_items s.names → vec_items u.names ≡ vec_items s.names → Alike m t u
      follows_alike a (Ok Yes) (Ok Yes) e d f g p q = untouched (rw (e, d) the_same) f.1.2.1 p g.1.2.1 q
      follows_alike a (Ok No) (Ok No) e d f g p q =
          let same = writes_one a f.1.0 g.1.0 f.1.1 g.1.1 in
          let one = f.1.2.0 in
          let two = g.1.2.0 in
          let o = opposite_one n _ (standing sheet) g.1.0 one.0 two.0 _ _ (subst (λ l. OppositeTo m (standing sheet) l one.0) same one.1) two.1 one.2 two.2 in
          record {
            answer = rw (e, d) the_same;
            times = same_times n _ _ _ _ _ (subst (λ l. First m n _ (and_also (standing sheet) l) (times_of m (vec_items t.times))) o one.2) two.2 f.1.2.2 g.1.2.2;
            names = λ _. p ∙ sym q;
          }
      follows_alike a (Ok Yes) (Ok No) e d f g p q = absurd (yes_no n sheet a _ _ _ f.1 g.1)
      follows_alike a (Ok No) (Ok Yes) e d f g p q = absurd (yes_no n sheet a _ _ _ g.1 f.1)
      follows_alike a (Ok v) (Err k) e d f g p q = absurd (not_both (follows_checks n a (length (vec_items s.times)) (length (vec_items s.work))) k f.0 g.0)
      follows_alike a (Err k) (Ok v) e d f g p q = absurd (not_both (follows_checks n a (length (vec_items s.times)) (length (vec_items s.work))) k g.0 f.0)
      follows_alike a (Err j) (Err k) e d f g p q =
          untouched (rw (e, d, one_refusal (follows_checks n a (length (vec_items s.times)) (length (vec_items s.work))) j k f.0 g.0) the_same) f.1 p g.1 q

      makes_alike : (c : Call) → Makes m c n sheet s t → Makes m c n sheet s u → Alike m t u
      makes_alike (Enter k a) f g = untouched (rw (f.1, g.1, enter_one n sheet k a f.0 g.0 f.2 g.2) the_same) f.3 f.4 g.3 g.4
      makes_alike (Strike k) f g = untouched (rw (f.1, g.1, strike_one sheet k f.0 g.0 f.2 g.2) the_same) f.3 f.4 g.3 g.4
      makes_alike Settle f g = settle_alike f.0 g.0 f.1 g.1 f.2 g.2
      makes_alike (Window x) f g = untouched (rw (f.1, g.1) (window_answer x _ f.0 g.0 f.2 g.2)) f.3 f.4 g.3 g.4
      makes_alike (Follows a) f g = follows_alike a f.0 g.0 f.1 g.1 f.2 g.2 f.3 g.3

      pub answers_alike : Answers m n sheet s t → Answers m n sheet s u → Alike m t u
      answers_alike f g = makes_alike s.call f.1 g.1
