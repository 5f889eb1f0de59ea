-- What lawful calls answer is exact.
use Rattle.std.proofs.Common.{◌≡◌, ℕ, ◌+◌, ◌-◌, ◌≤◌, List, get_or, drop, Some, Ok, vec_items, sym, refl, ap, ◌∙◌, arith}
use Rattle.std.proofs.lemmas.List.{get_or-drop}
use Rattle.bounds.specs.Bounds.{times_of}
use Rattle.lines.specs.Keeping.{Keeps, KeepsAll}
use Rattle.lines.specs.Quarrels.{Sheet, standing}
use Rattle.lines.specs.Timetables as timetables
use Rattle.lines.specs.Timetables.{Keepable, Clashes}
use Rattle.lines.specs.declared.line.Line.{Line}
use Rattle.scales.specs.declared.sums.OrderedSums.{Ghosts}
use Rattle.verdicts.specs.declared.following.Followed.{Followed}
use Rattle.verdicts.specs.declared.following.Followed.TheVariants.{Yes, No}
use Rattle.verdicts.specs.declared.settling.Settled.{Settled}
use Rattle.verdicts.specs.declared.settling.Settled.TheVariants.{Times, Clash}
use Rattle.lives.specs.Exact.{Exact, ExactAnswers}
use Rattle.lives.specs.Lives.{Lawful}
use Rattle.lives.specs.declared.steps.Reply.TheVariants as reply
use Rattle.lives.specs.declared.steps.Step.{Step}
use Rattle.lives.proofs.Tells.{settles}

-- behind their front two lists are the same
pub same_behind : {X : Type 0} (n : ℕ) (a b : List X) → drop n a ≡ drop n b → (k : ℕ) (d : X) → n ≤ k → get_or a k d ≡ get_or b k d
same_behind {X} n a b e k d h =
    let at : n + (k - n) ≡ k = omega arith in
    let here = λ (c : List X). ap (λ y. get_or c y d) (sym at) ∙ sym (get_or-drop n c (k - n) d) in
    here a ∙ ap (λ r. get_or r (k - n) d) e ∙ sym (here b)

module _ {S : Type 0} (m : Ghosts S) (n : ℕ) (sheet : Sheet) (s t : Step S) where
  -- lines that clash are not settled with times
  no_times : (a : Settled) → (a ≡ Times → Keepable m (standing sheet)) → Clashes m (standing sheet) → (c : ℕ) × (a ≡ Clash c)
  no_times Times kept clash = let k = kept refl in absurd (clash k.0 k.1)
  no_times (Clash c) kept clash = (c, refl)

  -- a line that follows is kept by every timetable that is shown
  no_no : (l : Line) (f : Followed) → (f ≡ No → KeepsAll m (times_of m (vec_items t.times)) (standing sheet) × (Keeps m (times_of m (vec_items t.times)) l → ⊥))
      → timetables.Follows m (standing sheet) l → f ≡ Yes
  no_no l Yes shown follows = refl
  no_no l No shown follows = let w = shown refl in absurd (w.1 (follows (times_of m (vec_items t.times)) w.0))

  exact : Lawful m n sheet s t → Exact m sheet s t
  exact l = record {
    clash = λ a e. no_times a (λ is. l.clash.1 (e ∙ ap (λ b. Some (reply.Settled (Ok b))) is));
    follows = λ a line called w f e. no_no line f (λ is. (l.follows a line called w).1 (e ∙ ap (λ g. Some (reply.Followed (Ok g))) is));
    behind = λ c e k d h. same_behind c (vec_items t.names) (vec_items s.names) (settles m n sheet s t s.call l.answers.1 (Ok (Clash c)) e).1.2 k d h;
  }

pub exact_answers : {S : Type 0} (m : Ghosts S) → ExactAnswers m
exact_answers m n asked done l i d h = exact m n _ _ _ (l.each i d h)
