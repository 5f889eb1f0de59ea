-- What a call answered can be printed.
use Rattle.std.proofs.Common.{◌≡◌, ℕ, zero, suc, ◌-◌, ◌<◌, ◌≤◌, List, length, get_or, take, Ok, Err, vec_items, Option, Result, sym, subst, inl, ⊎_elim, arith, length-take}
use Rattle.std.proofs.ByRecursion.{has_get_or}
use Rattle.std.proofs.lemmas.Bool.{cases_lt}
use Rattle.std.specs.List.{ContainsAt as Has}
use Rattle.engine.specs.Calls.{FollowsAs, Settles, Windows}
use Rattle.engine.specs.declared.refusal.Refusal.{Refusal}
use Rattle.lines.specs.Quarrels.{Rising, Sheet}
use Rattle.lines.specs.declared.asked.Asked.{Asked}
use Rattle.lines.specs.declared.line.Line.{Line}
use Rattle.lives.specs.Answers.{Makes}
use Rattle.lives.specs.Changes.{SameLengths}
use Rattle.lives.specs.Lives.{Lawful}
use Rattle.lines.specs.declared.call.Call.{Call}
use Rattle.lines.specs.declared.call.Call.TheVariants.{Enter, Strike, Settle, Window, Follows}
use Rattle.lives.specs.declared.steps.Step.{Step}
use Rattle.printing.specs.Shown.{Shown, ShownFollowed, ShownReply, ShownSettled, ShownWindow}
use Rattle.scales.specs.declared.sums.OrderedSums.{Ghosts}
use Rattle.verdicts.specs.declared.following.Followed.{Followed}
use Rattle.verdicts.specs.declared.following.Followed.TheVariants.{Yes, No}
use Rattle.verdicts.specs.declared.settling.Settled.{Settled}
use Rattle.verdicts.specs.declared.settling.Settled.TheVariants.{Times, Clash}

rising_above : (ks : List ℕ) → Rising ks → (i : ℕ) → i < length ks → i ≤ get_or ks i 0
rising_above ks r zero h = omega arith
rising_above ks r (suc i) h =
    let before = rising_above ks r i (omega arith) in
    let step = r i (suc i) (omega arith) h in
    omega arith

-- there are at most b rising numbers below b
rising_few : (ks : List ℕ) (b : ℕ) → Rising ks → ((k : ℕ) → Has ks k → k < b) → length ks ≤ b
rising_few ks b r below =
    ⊎_elim
    (λ some.
    let last = length ks - 1 in
    let within : last < length ks = omega arith in
    omega (arith, rising_above ks r last within, below (get_or ks last 0) (has_get_or ks last 0 within)))
    (λ none. omega arith)
    (cases_lt 0 (length ks))

module _ {S : Type 0} (m : Ghosts S) (n : ℕ) (sheet : Sheet) (below : (k : ℕ) (l : Line) → sheet k l → k < 400) (s t : Step S) (long : SameLengths s t) where
  abbrev times' : List S
  times' = vec_items t.times

  abbrev names' : List ℕ
  names' = vec_items t.names

  enough : (k : ℕ) (xs : List S) → (k < n → ⊥) → k ≡ length xs → n ≤ length xs
  enough k xs h e = ⊎_elim (λ short. absurd (h short)) (λ ok. omega arith) (cases_lt k n)

  settled : (r : Result Settled Refusal) → Settles m n sheet (length (vec_items s.work)) (vec_items s.times) (vec_items s.names) r times' names' → ShownSettled m n times' names' r
  settled (Ok Times) h = record { there = enough _ times' (λ short. h.0.0 (inl short)) (sym long.times); printable = h.1.1 }
  settled (Ok (Clash c)) h =
      let q = h.1.0 in
      let few = rising_few (take c names') 400 q.rising (λ k has. below k (q.stand k has).0 (q.stand k has).1) in
      (omega (arith, h.1.1, length-take c names'), omega (arith, h.1.1, few))
  settled (Err e) h = tt

  windowed : (x : ℕ) (r : Result (Option S × Option S) Refusal) → Windows m n sheet x (length (vec_items s.work)) r → ShownWindow m r
  windowed x (Ok ends) h = h.1.printable
  windowed x (Err e) h = tt

  followed : (a : Asked) (r : Result Followed Refusal) → FollowsAs m n sheet a (length (vec_items s.work)) (vec_items s.times) r times' → ShownFollowed m n times' r
  followed a (Ok Yes) h = tt
  followed a (Ok No) h = record { there = enough _ times' (λ short. h.0.1.1.1.0 (inl short)) (sym long.times); printable = h.1.2.1 }
  followed a (Err e) h = tt

  shown_by : (c : Call) → Makes m c n sheet s t → Shown m n t
  shown_by (Enter k a) h = subst (ShownReply m n t) (sym h.1) tt
  shown_by (Strike k) h = subst (ShownReply m n t) (sym h.1) tt
  shown_by Settle h = subst (ShownReply m n t) (sym h.1) (settled h.0 h.2)
  shown_by (Window x) h = subst (ShownReply m n t) (sym h.1) (windowed x h.0 h.2)
  shown_by (Follows a) h = subst (ShownReply m n t) (sym h.1) (followed a h.0 h.2)

-- a call that was made where lines stand under numbers below 400
pub shown : {S : Type 0} (m : Ghosts S) (n : ℕ) (sheet : Sheet) (s t : Step S) → ((k : ℕ) (l : Line) → sheet k l → k < 400) → SameLengths s t → Lawful m n sheet s t → Shown m n t
shown m n sheet s t below long l = shown_by m n sheet below s t long s.call l.answers.1
