-- Writes at the front of a lent buffer, one after another.
use Rattle.std.proofs.Common.{◌≡◌, ℕ, ◌+◌, ◌-◌, ◌≤◌, List, drop, sym, refl, ap, ◌∙◌, subst, arith}
use Rattle.std.proofs.lemmas.List.{drop-drop, length-take-le}
use Rattle.writing.specs.Fronts.{Stays, capacity_of, end_of, written}
use Rattle.writing.specs.Put.{Put}
use Rattle.writing.specs.declared.front.Front.{Front}

-- what lies behind a place lies behind a later one
drop_later : (x y : List ℕ) (r s : ℕ) → r ≤ s → drop r y ≡ drop r x → drop s y ≡ drop s x
drop_later x y r s h e =
    let later : r + (s - r) ≡ s = omega arith in
    subst (λ (k : ℕ). drop k y ≡ drop k x) later (sym (drop-drop (s - r) r y) ∙ ap (drop (s - r)) e ∙ drop-drop (s - r) r x)

pub stays_then : {a b c : Front} → Stays a b → Stays b c → Stays a c
stays_then {a} {b} {c} p q =
    record {
      same = q.same ∙ p.same;
      long = q.long ∙ p.long;
      on = omega (arith, p.on, q.on);
      rest = q.rest ∙ drop_later a.buffer.now b.buffer.now b.end c.end q.on p.rest;
    }

-- from the front on, the text stands in the buffer, and the rest is as it was
pub put_whole : (a b : Front) → end_of a ≡ 0 → end_of b ≤ capacity_of a → Stays a b → Put 0 (written b) a.buffer.now (end_of b) b.buffer.now
put_whole a b start within p =
    record {
      place = omega (arith, length-take-le b.end b.buffer.now (omega (arith, p.long)));
      front = refl;
      rest = p.rest;
    }
