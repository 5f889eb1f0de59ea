use Rattle.std.proofs.Common.{◌≡◌, ℕ, List, ◌++◌, cond, vec_items, codes, Ok, Err, Result, OnOk, is_ok, sym, ap, ◌∙◌, true≢false, append_assoc}
use Rattle.std.proofs.lemmas.Slice.Eq.{slice_eq-Decides}
use Rattle.std.proofs.lemmas.Bool.Decides.{Decides-eqb}
use Rattle.sheets.specs.Reports.{as_due, not_due}
use Rattle.sheets.proofs.sheet.judge.Goals as goal

-- what follows once the bytes are added
added : {E P : Type 0} (r : Result (Unit {0}) E) (old more new : List ℕ) → new ≡ cond (is_ok r) (old ++ more) old → (new ≡ old ++ more → P) → OnOk r P
added (Ok u) old more new e follows = follows e
added (Err x) old more new e follows = tt

pub returns-then-eq : goal.returns-then-eq
returns-then-eq c =
    let same = slice_eq-Decides Decides-eqb _ _ _ c.eq.ensures in
    added c.extend_from_slice.result (vec_items c.args.out.now) _ _ c.extend_from_slice.ensures.items (λ e. (_, as_due (same.0 c.if-eq.true), e))

pub returns : goal.returns
returns c =
    let same = slice_eq-Decides Decides-eqb _ _ _ c.eq.ensures in
    added c.extend_from_slice-3.result (vec_items c.extend_from_slice-2.new.self) _ _ c.extend_from_slice-3.ensures.items
    (λ e. (
      _,
      not_due (λ p. true≢false (sym (same.1 p) ∙ c.if-eq.false)),
      e ∙ ap (λ (x : List ℕ). x ++ c.args.due.now) c.in_ok-extend_from_slice.ensures.items ∙ append_assoc (vec_items c.args.out.now) (codes "due:\n") c.args.due.now,
    ))
