-- What the answer of a call tells of the lines that stood.
use Rattle.std.proofs.Common.{◌≡◌, ℕ, List, length, vec_items, Some, Ok, Err, Option, Result, refl, subst, inl, inr, ⊎_elim, arith}
use Rattle.engine.specs.Calls.{FollowsAs, Settles}
use Rattle.engine.specs.Records.{Entered, Struck}
use Rattle.engine.specs.declared.refusal.Refusal.{Refusal}
use Rattle.lines.specs.Asking.{Writes}
use Rattle.lines.specs.Keeping.{Keeps, KeepsAll, Timetable}
use Rattle.lines.specs.Operators.{opposites}
use Rattle.lines.specs.Proper.{Proper}
use Rattle.lines.specs.Quarrels.{Sheet, Quarrel, standing}
use Rattle.lines.specs.Timetables as timetables
use Rattle.lines.specs.Timetables.{Keepable, Clashes}
use Rattle.lines.specs.declared.asked.Asked.{Asked}
use Rattle.lines.specs.declared.line.Line.{Line}
use Rattle.scales.specs.declared.sums.OrderedSums.{Ghosts}
use Rattle.scales.proofs.Lawful.{Laws}
use Rattle.lines.proofs.Opposing.{opposed}
use Rattle.lines.proofs.Writing.{writes_one}
use Rattle.bounds.specs.Bounds.{times_of}
use Rattle.verdicts.specs.Following.{OppositeTo}
use Rattle.verdicts.specs.declared.following.Followed.{Followed}
use Rattle.verdicts.specs.declared.following.Followed.TheVariants.{Yes, No}
use Rattle.verdicts.specs.declared.settling.Settled.{Settled}
use Rattle.verdicts.specs.declared.settling.Settled.TheVariants.{Times, Clash}
use Rattle.tables.specs.Tables.{Shows}
use Rattle.lives.specs.Answers.{Answers, Makes, EnterAnswers, StrikeAnswers}
use Rattle.lives.specs.Lives.{TellsClash, NamesQuarrel, TellsFollows, Lawful}
use Rattle.lines.specs.declared.call.Call.{Call}
use Rattle.lines.specs.declared.call.Call.TheVariants.{Enter, Strike, Settle, Window, Follows}
use Rattle.lives.specs.declared.steps.Reply.TheVariants as reply
use Rattle.lives.specs.declared.steps.Step.{Step}

module _ {S : Type 0} (m : Ghosts S) where
  -- lines that quarrel leave no timetable for all that stand
  pub quarrel_clashes : (sheet : Sheet) (ks : List ℕ) → Quarrel m sheet ks → Clashes m (standing sheet)
  quarrel_clashes sheet ks q t keeps = q.clash t (λ l u. keeps l (u.0, u.2))

  module _ (n : ℕ) (sheet : Sheet) (s t : Step S) where
    -- the answer of a settle is that of a call that settles
    pub settles : (c : Call) → Makes m c n sheet s t → (r : Result Settled Refusal) → t.reply ≡ Some (reply.Settled r)
        → Settles m n sheet (length (vec_items s.work)) (vec_items s.times) (vec_items s.names) r (vec_items t.times) (vec_items t.names)
    settles (Enter k a) h r e = let p = h.1 in absurd (let z : ◌≡◌ {A = ℕ} 0 1 = cc in omega arith)
    settles (Strike k) h r e = let p = h.1 in absurd (let z : ◌≡◌ {A = ℕ} 0 1 = cc in omega arith)
    settles Settle h r e =
        let p = h.1 in
        let is : h.0 ≡ r = cc in
        subst (λ v. Settles m n sheet (length (vec_items s.work)) (vec_items s.times) (vec_items s.names) v (vec_items t.times) (vec_items t.names)) is h.2
    settles (Window x) h r e = let p = h.1 in absurd (let z : ◌≡◌ {A = ℕ} 0 1 = cc in omega arith)
    settles (Follows a) h r e = let p = h.1 in absurd (let z : ◌≡◌ {A = ℕ} 0 1 = cc in omega arith)

    names_quarrel : (c : Call) → Makes m c n sheet s t → NamesQuarrel m sheet t
    names_quarrel c h k e = (settles c h (Ok (Clash k)) e).1.0

    tells_kept : (c : Call) → Makes m c n sheet s t → t.reply ≡ Some (reply.Settled (Ok Times)) → Keepable m (standing sheet)
    tells_kept c h e = (_, (settles c h (Ok Times) e).1.0.keeps)

    tells_clash : (c : Call) → Makes m c n sheet s t → TellsClash m sheet t
    tells_clash c h = ((λ k e. quarrel_clashes sheet _ (names_quarrel c h k e)), tells_kept c h)

  module _ (laws : Laws m) where
    -- no timetable keeps a line and its opposite
    pub opposite_breaks : (lines : Line → Type 0) (l o : Line) (t : Timetable m) → OppositeTo m lines l o → Keeps m t o → Keeps m t l → ⊥
    opposite_breaks lines l o t =
        ⊎_elim
        (λ is kept. (opposed m laws).not_both l.op (opposites l.op).0 _ _ (inl refl) (subst (Keeps m t) is kept))
        (λ s kept. (opposed m laws).not_both l.op s.0 _ _ (inr s.1) (subst (Keeps m t) s.3 kept))

    module _ (n : ℕ) (sheet : Sheet) (s t : Step S) where
      answer_yes : (a : Asked) (l : Line) (r : Result Followed Refusal) (work : ℕ) (times times' : List S) → Writes a l → r ≡ Ok Yes → FollowsAs m n sheet a work times r times' → timetables.Follows m (standing sheet) l
      answer_yes a l (Ok Yes) work times times' w e h = subst (timetables.Follows m (standing sheet)) (writes_one a h.1.0 l h.1.1 w) h.1.2.0
      answer_yes a l (Ok No) work times times' w e h = absurd (let z : ◌≡◌ {A = ℕ} 0 1 = cc in omega arith)
      answer_yes a l (Err x) work times times' w e h = absurd (let z : ◌≡◌ {A = ℕ} 0 1 = cc in omega arith)

      answer_no : (a : Asked) (l : Line) (r : Result Followed Refusal) (work : ℕ) (times times' : List S) → Writes a l → r ≡ Ok No → FollowsAs m n sheet a work times r times' → KeepsAll m (times_of m times') (standing sheet) × (Keeps m (times_of m times') l → ⊥)
      answer_no a l (Ok No) work times times' w e h =
          let shown = h.1.2.0 in (
            (λ k in'. shown.2.keeps k (inl in')),
            subst (λ k. Keeps m (times_of m times') k → ⊥) (writes_one a h.1.0 l h.1.1 w) (opposite_breaks (standing sheet) h.1.0 shown.0 (times_of m times') shown.1 (shown.2.keeps shown.0 (inr refl))),
          )
      answer_no a l (Ok Yes) work times times' w e h = absurd (let z : ◌≡◌ {A = ℕ} 0 1 = cc in omega arith)
      answer_no a l (Err x) work times times' w e h = absurd (let z : ◌≡◌ {A = ℕ} 0 1 = cc in omega arith)

      tells_follows : (c : Call) → t.call ≡ c → Makes m c n sheet s t → TellsFollows m sheet t
      tells_follows (Enter k a) called h b l q w = absurd (let z : ◌≡◌ {A = ℕ} 0 1 = cc in omega arith)
      tells_follows (Strike k) called h b l q w = absurd (let z : ◌≡◌ {A = ℕ} 0 1 = cc in omega arith)
      tells_follows Settle called h b l q w = absurd (let z : ◌≡◌ {A = ℕ} 0 1 = cc in omega arith)
      tells_follows (Window x) called h b l q w = absurd (let z : ◌≡◌ {A = ℕ} 0 1 = cc in omega arith)
      tells_follows (Follows a) called h b l q w =
          let p = h.1 in
          let is : b ≡ a = cc in
          let w' = subst (λ x. Writes x l) is w in (
            (λ e. let yes' : h.0 ≡ Ok Yes = cc in answer_yes a l h.0 _ _ _ w' yes' h.2),
            (λ e. let no' : h.0 ≡ Ok No = cc in answer_no a l h.0 _ _ _ w' no' h.2),
          )

      pub lawful : ((k : ℕ) (l : Line) → sheet k l → Proper n l) → Answers m n sheet s t → Lawful m n sheet s t
      lawful proper answers = record {
        proper = proper;
        answers = answers;
        clash = tells_clash n sheet s t s.call answers.1;
        quarrel = names_quarrel n sheet s t s.call answers.1;
        follows = tells_follows s.call answers.0 answers.1;
      }

-- what enter and strike answer, of what they answer and leave
pub enter_answers : (n : ℕ) (before after : List (Option Line)) (k : ℕ) (a : Asked) (r : Result (Unit {0}) Refusal) → Entered n before k a r after → EnterAnswers n (Shows before) k a r
enter_answers n before after k a (Ok u) h = h.0
enter_answers n before after k a (Err e) h = h.0

pub strike_answers : (before after : List (Option Line)) (k : ℕ) (r : Result (Unit {0}) Refusal) → Struck before k r after → StrikeAnswers (Shows before) k r
strike_answers before after k (Ok u) h = h.0
strike_answers before after k (Err e) h = h.0
