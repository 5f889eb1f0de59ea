-- What a call answers where the lines of one sheet stand, it answers where the same lines of another do.
use Rattle.std.proofs.Common.{◌≡◌, ℕ, List, [], ◌∷◌, Ok, Err, Option, Result, refl, ◌∙◌, inl, inr, ⊎_elim}
use Rattle.engine.specs.Calls.{Settles, Windows, FollowsAs}
use Rattle.engine.specs.Checks.{Check, Granted, Refused, enter_checks, strike_checks, window_checks}
use Rattle.engine.specs.declared.refusal.Refusal.{Refusal}
use Rattle.lines.proofs.Same.{SameSheet, standing_within, swap_sheets, also_within, keeps_within, clashes_within, first_same, earliest_same, latest_same, follows_same, quarrel_same}
use Rattle.lines.specs.Quarrels.{Sheet, standing}
use Rattle.lines.specs.Timetables.{Clashes}
use Rattle.lines.specs.declared.asked.Asked.{Asked}
use Rattle.lines.specs.declared.line.Line.{Line}
use Rattle.scales.specs.declared.sums.OrderedSums.{Ghosts}
use Rattle.verdicts.specs.Following.{OppositeTo}
use Rattle.verdicts.specs.declared.following.Followed.{Followed}
use Rattle.verdicts.specs.declared.following.Followed.TheVariants.{Yes, No}
use Rattle.verdicts.specs.declared.settling.Settled.{Settled}
use Rattle.verdicts.specs.declared.settling.Settled.TheVariants.{Times, Clash}
use Rattle.lives.specs.Answers.{Answers, Makes, EnterAnswers, StrikeAnswers}
use Rattle.lines.specs.declared.call.Call.{Call}
use Rattle.lines.specs.declared.call.Call.TheVariants.{Enter, Strike, Settle, Window, Follows}
use Rattle.lives.specs.declared.steps.Step.{Step}

-- the same checks in the same order, each applying when the other does
abbrev SameChecks : List Check → List Check → Type 0
SameChecks [] [] = Unit {0}
SameChecks [] (d ∷ ds) = ⊥
SameChecks (c ∷ cs) [] = ⊥
SameChecks (c ∷ cs) (d ∷ ds) = (c.refusal ≡ d.refusal) × (c.applies → d.applies) × (d.applies → c.applies) × SameChecks cs ds

granted_same : (cs ds : List Check) → SameChecks cs ds → Granted cs → Granted ds
granted_same [] [] s g = tt
granted_same [] (d ∷ ds) s g = absurd s
granted_same (c ∷ cs) [] s g = absurd s
granted_same (c ∷ cs) (d ∷ ds) s g = ((λ a. g.0 (s.2 a)), granted_same cs ds s.3 g.1)

refused_same : (cs ds : List Check) (r : Refusal) → SameChecks cs ds → Refused cs r → Refused ds r
refused_same [] [] r s h = h
refused_same [] (d ∷ ds) r s h = absurd s
refused_same (c ∷ cs) [] r s h = absurd s
refused_same (c ∷ cs) (d ∷ ds) r s h = ⊎_elim (λ a. inl (s.1 a.0, a.1 ∙ s.0)) (λ n. inr ((λ a. n.0 (s.2 a)), refused_same cs ds r s.3 n.1)) h

module _ (a b : Sheet) (same : SameSheet a b) where
  same_enter_checks : (n k : ℕ) (l : Asked) → SameChecks (enter_checks n a k l) (enter_checks n b k l)
  same_enter_checks n k l =
      let i = λ (P : Type 0) (p : P). p in
      (refl, i _, i _, (refl, i _, i _, (refl, i _, i _, (refl, i _, i _, (refl, i _, i _, (refl, (λ s. (s.0, (same k s.0).0 s.1)), (λ s. (s.0, (same k s.0).1 s.1)), tt))))))

  same_strike_checks : (k : ℕ) → SameChecks (strike_checks a k) (strike_checks b k)
  same_strike_checks k = (refl, (λ p. p), (λ p. p), (refl, (λ f l s. f l ((same k l).1 s)), (λ f l s. f l ((same k l).0 s)), tt))

  enter_same : (n k : ℕ) (l : Asked) (r : Result (Unit {0}) Refusal) → EnterAnswers n a k l r → EnterAnswers n b k l r
  enter_same n k l (Ok u) h = granted_same (enter_checks n a k l) (enter_checks n b k l) (same_enter_checks n k l) h
  enter_same n k l (Err e) h = refused_same (enter_checks n a k l) (enter_checks n b k l) e (same_enter_checks n k l) h

  strike_same : (k : ℕ) (r : Result (Unit {0}) Refusal) → StrikeAnswers a k r → StrikeAnswers b k r
  strike_same k (Ok u) h = granted_same (strike_checks a k) (strike_checks b k) (same_strike_checks k) h
  strike_same k (Err e) h = refused_same (strike_checks a k) (strike_checks b k) e (same_strike_checks k) h

  module _ {S : Type 0} (m : Ghosts S) where
    abbrev to : (l : Line) → standing a l → standing b l
    to = standing_within a b same

    abbrev from : (l : Line) → standing b l → standing a l
    from = standing_within b a (swap_sheets a b same)

    settle_same : (n work : ℕ) (times times' : List S) (names names' : List ℕ) (r : Result Settled Refusal) → Settles m n a work times names r times' names' → Settles m n b work times names r times' names'
    settle_same n work times times' names names' (Ok Times) h = (h.0, (first_same m _ _ to from n _ _ h.1.0, h.1.1, h.1.2, h.1.3))
    settle_same n work times times' names names' (Ok (Clash c)) h = (h.0, (quarrel_same m a b _ same h.1.0, h.1.1, h.1.2, h.1.3))
    settle_same n work times times' names names' (Err e) h = h

    same_window_checks : (n x work : ℕ) → SameChecks (window_checks n x work (Clashes m (standing a))) (window_checks n x work (Clashes m (standing b)))
    same_window_checks n x work = (refl, (λ p. p), (λ p. p), (refl, (λ p. p), (λ p. p), (refl, clashes_within m _ _ to, clashes_within m _ _ from, tt)))

    window_same : (n x work : ℕ) (r : Result (Option S × Option S) Refusal) → Windows m n a x work r → Windows m n b x work r
    window_same n x work (Ok w) h = (
      granted_same (window_checks n x work (Clashes m (standing a))) (window_checks n x work (Clashes m (standing b))) (same_window_checks n x work) h.0,
      record {
        kept = (h.1.kept.0, keeps_within m _ _ _ from h.1.kept.1);
        earliest = earliest_same m _ _ to from x w.0 h.1.earliest;
        latest = latest_same m _ _ to from x w.1 h.1.latest;
        printable = h.1.printable;
      },
    )
    window_same n x work (Err e) h = refused_same (window_checks n x work (Clashes m (standing a))) (window_checks n x work (Clashes m (standing b))) e (same_window_checks n x work) h

    opposite_same : (l o : Line) → OppositeTo m (standing a) l o → OppositeTo m (standing b) l o
    opposite_same l o = ⊎_elim inl (λ s. inr (s.0, s.1, clashes_within m _ _ (also_within _ _ _ to) s.2, s.3))

    follows_as_same : (n work : ℕ) (q : Asked) (times times' : List S) (r : Result Followed Refusal) → FollowsAs m n a q work times r times' → FollowsAs m n b q work times r times'
    follows_as_same n work q times times' (Ok Yes) h = (h.0, (h.1.0, h.1.1, (follows_same m _ _ to from h.1.0 h.1.2.0, h.1.2.1)))
    follows_as_same n work q times times' (Ok No) h =
        let shown = h.1.2.0 in
        (h.0, (h.1.0, h.1.1, ((shown.0, opposite_same h.1.0 shown.0 shown.1, first_same m _ _ (also_within _ _ _ to) (also_within _ _ _ from) n _ _ shown.2), h.1.2.1, h.1.2.2)))
    follows_as_same n work q times times' (Err e) h = h

    makes_same : (c : Call) (n : ℕ) (s t : Step S) → Makes m c n a s t → Makes m c n b s t
    makes_same (Enter k l) n s t h = (h.0, h.1, enter_same n k l h.0 h.2, h.3, h.4)
    makes_same (Strike k) n s t h = (h.0, h.1, strike_same k h.0 h.2, h.3, h.4)
    makes_same Settle n s t h = (h.0, h.1, settle_same n _ _ _ _ _ h.0 h.2)
    makes_same (Window x) n s t h = (h.0, h.1, window_same n x _ h.0 h.2, h.3, h.4)
    makes_same (Follows l) n s t h = (h.0, h.1, follows_as_same n _ l _ _ h.0 h.2, h.3)

    pub answers_same : (n : ℕ) (s t : Step S) → Answers m n a s t → Answers m n b s t
    answers_same n s t h = (h.0, makes_same s.call n s t h.1)
