-- Two lives of the same calls with the same buffers answer alike.
use Rattle.std.proofs.Common.{◌≡◌, ℕ, zero, suc, ◌<◌, ◌≤◌, List, [], ◌∷◌, ◌++◌, map, length, get_or, take, Some, None, Option, Result, sym, ap, ◌∙◌, add-one, arith}
use mathlib.Core.List.{map-append}
use Rattle.std.proofs.lemmas.List.{take_more}
use Rattle.engine.specs.declared.refusal.Refusal.{Refusal}
use Rattle.lines.proofs.Same.{SameSheet, swap_sheets}
use Rattle.lines.specs.declared.line.Line.{Line}
use Rattle.scales.specs.declared.sums.OrderedSums.{Ghosts}
use Rattle.scales.proofs.Lawful.{Laws}
use Rattle.lives.specs.Determined.{SameEnd, AlikeReply, the_same, both_clash, same_window, Alike, OneLife}
use Rattle.lives.specs.Lives.{Lived}
use Rattle.lives.specs.Standing.{Made, Stands, Enters, Strikes, made}
use Rattle.lives.specs.declared.steps.Reply.{Reply}
use Rattle.lives.specs.declared.steps.Reply.TheVariants as reply
use Rattle.lives.specs.declared.steps.Step.{Step}
use Rattle.lives.proofs.Same.{answers_same}
use Rattle.lives.proofs.Stands.{same_after}
use Rattle.lives.proofs.Unique.{answers_alike}

module _ {S : Type 0} (m : Ghosts S) where
  same_end : (v w : Option S) → SameEnd m v w → SameEnd m w v
  same_end None None e = tt
  same_end None (Some w) e = e
  same_end (Some v) None e = e
  same_end (Some v) (Some w) e = sym e

  turned : {p q : Option (Reply S)} → AlikeReply m p q → AlikeReply m q p
  turned the_same = the_same
  turned both_clash = both_clash
  turned (same_window {v} {w} e l) = same_window (same_end v.0 w.0 e) (same_end v.1 w.1 l)

  -- alike answers of enter, and of strike, are the same
  entered : {p q : Option (Reply S)} (r : Result (Unit {0}) Refusal) → AlikeReply m p q → p ≡ Some (reply.Entered r) → q ≡ Some (reply.Entered r)
  entered r the_same e = e
  entered r both_clash e = absurd (let z : ◌≡◌ {A = ℕ} 0 1 = cc in omega arith)
  entered r (same_window v w) e = absurd (let z : ◌≡◌ {A = ℕ} 0 1 = cc in omega arith)

  struck : {p q : Option (Reply S)} (r : Result (Unit {0}) Refusal) → AlikeReply m p q → p ≡ Some (reply.Struck r) → q ≡ Some (reply.Struck r)
  struck r the_same e = e
  struck r both_clash e = absurd (let z : ◌≡◌ {A = ℕ} 0 1 = cc in omega arith)
  struck r (same_window v w) e = absurd (let z : ◌≡◌ {A = ℕ} 0 1 = cc in omega arith)

  enters_alike : (c d : Made S) → c.call ≡ d.call → AlikeReply m c.reply d.reply → (k : ℕ) (l : Line) → Enters c k l → Enters d k l
  enters_alike c d e a k l en = (en.0, sym e ∙ en.1, entered _ a en.2, en.3)

  strikes_alike : (c d : Made S) → c.call ≡ d.call → AlikeReply m c.reply d.reply → (k : ℕ) → Strikes c k → Strikes d k
  strikes_alike c d e a k s = (sym e ∙ s.0, struck _ a s.1)

  module _ (laws : Laws m) (n : ℕ) (asked one two : List (Step S)) (f : Lived m n asked one) (g : Lived m n asked two) (d : Step S) where
    abbrev past : List (Step S) → ℕ → List (Made S)
    past life i = map made (take i life)

    alike_at : (i : ℕ) → i < length asked → SameSheet (Stands (past one i)) (Stands (past two i)) → Alike m (get_or one i d) (get_or two i d)
    alike_at i h same =
        answers_alike m laws n (Stands (past one i)) (get_or asked i d) (get_or one i d) (get_or two i d) (f.each i d h).answers
        (answers_same (Stands (past two i)) (Stands (past one i)) (swap_sheets (Stands (past one i)) (Stands (past two i)) same) m n (get_or asked i d) (get_or two i d) (g.each i d h).answers)

    -- one more call
    past_more : (life : List (Step S)) (i : ℕ) → i < length life → past life (suc i) ≡ past life i ++ made (get_or life i d) ∷ []
    past_more life i h = ap (map made) (ap (λ k. take k life) (sym (add-one i)) ∙ take_more life i d h) ∙ map-append made (take i life) (get_or life i d ∷ [])

    same_more : (i : ℕ) → i < length asked → SameSheet (Stands (past one i)) (Stands (past two i)) → SameSheet (Stands (past one (suc i))) (Stands (past two (suc i)))
    same_more i lt before =
        let alike = (alike_at i lt before).answer in
        let called : (get_or one i d).call ≡ (get_or two i d).call = (f.each i d lt).answers.0 ∙ sym (g.each i d lt).answers.0 in
        let c = made (get_or one i d) in
        let e = made (get_or two i d) in
        rw (past_more one i (omega (arith, f.all)), past_more two i (omega (arith, g.all)))
        (same_after (past one i) (past two i) c e before
        (λ k l. (enters_alike c e called alike k l, enters_alike e c (sym called) (turned alike) k l))
        (λ k. (strikes_alike c e called alike k, strikes_alike e c (sym called) (turned alike) k)))

    same_so_far : (i : ℕ) → i ≤ length asked → SameSheet (Stands (past one i)) (Stands (past two i))
    same_so_far zero h = λ k l. ((λ st. st), (λ st. st))
    same_so_far (suc i) h = same_more i (omega arith) (same_so_far i (omega arith))

    all_alike : (i : ℕ) → i < length asked → Alike m (get_or one i d) (get_or two i d)
    all_alike i h = alike_at i h (same_so_far i (omega arith))

  pub one_life : Laws m → OneLife m
  one_life laws n asked one two f g i d h = all_alike laws n asked one two f g d i h
