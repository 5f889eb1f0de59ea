-- What stands after one more call, from what stood before it.
use Rattle.std.proofs.Common.{◌≡◌, ℕ, ◌<◌, ◌⊎◌, List, [], ◌∷◌, ◌++◌, length, get_or, set, replicate, Some, None, Ok, Err, Option, Result, sym, refl, ap, ◌∙◌, subst, inl, inr, ⊎_elim, append_assoc, arith}
use Rattle.std.specs.List.{AllByRecursion}
use Rattle.std.proofs.ByRecursion.{All-push}
use Rattle.std.proofs.lemmas.List.{get_or-set_same, get_or-set_other}
use Rattle.std.proofs.lemmas.Bool.{cases_eq, cases_lt}
use Rattle.engine.specs.Records.{Entered, Struck}
use Rattle.engine.specs.declared.refusal.Refusal.{Refusal}
use Rattle.lines.proofs.Same.{SameSheet}
use Rattle.lines.proofs.Writing.{writes_one}
use Rattle.lines.specs.Asking.{Writes}
use Rattle.lines.specs.Quarrels.{Sheet}
use Rattle.lines.specs.declared.asked.Asked.{Asked}
use Rattle.lines.specs.declared.line.Line.{Line}
use Rattle.tables.proofs.Records.{none_everywhere}
use Rattle.tables.specs.Tables.{Shows}
use Rattle.lives.specs.Lives.{ShowsAll}
use Rattle.lives.specs.Standing.{Made, Stands, Enters, Strikes}
use Rattle.lines.specs.declared.call.Call.TheVariants.{Enter, Strike}
use Rattle.lives.specs.declared.steps.Reply.TheVariants as reply

nothing_there : {X : Type 0} (e : List X) (x : X) (xs : List X) → [] ≡ e ++ x ∷ xs → ⊥
nothing_there [] x xs p = let z : ◌≡◌ {A = ℕ} 0 1 = cc in omega arith
nothing_there (y ∷ e) x xs p = let z : ◌≡◌ {A = ℕ} 0 1 = cc in omega arith

-- an element of a list with s at its end is that s, or stands before it
split_last : {X : Type 0} (past : List X) (s : X) (e : List X) (x : X) (xs : List X) → past ++ s ∷ [] ≡ e ++ x ∷ xs
    → ((x ≡ s) × (xs ≡ [])) ⊎ ((ys : List X) × (xs ≡ ys ++ s ∷ []) × (past ≡ e ++ x ∷ ys))
split_last [] s [] x xs p = inl (cc, cc)
split_last [] s (f ∷ e) x xs p = absurd (nothing_there e x xs (cc))
split_last (q ∷ past) s [] x xs p = inr (past, (cc), (cc))
split_last (q ∷ past) s (f ∷ e) x xs p = ⊎_elim inl (λ t. inr (t.0, t.1, (let h = t.2 in cc))) (split_last past s e x xs (cc))

unpush : {X : Type 0} (P : X → Type 0) (xs : List X) (x : X) → AllByRecursion P (xs ++ x ∷ []) → AllByRecursion P xs × P x
unpush P [] x h = (tt, h.0)
unpush P (y ∷ xs) x h = ((h.0, (unpush P xs x h.1).0), (unpush P xs x h.1).1)

not_above : (k : ℕ) → (399 < k → ⊥) → k < 400
not_above k h = ⊎_elim (λ lt. lt) (λ ge. absurd (h (omega arith))) (cases_lt k 400)

module _ {S : Type 0} where
  stands_none : (k : ℕ) (l : Line) → Stands {S = S} [] k l → ⊥
  stands_none k l st = nothing_there st.earlier st.entry st.later st.split

  stands_more : (past : List (Made S)) (c : Made S) (k : ℕ) (l : Line) → Stands past k l → (Strikes c k → ⊥) → Stands (past ++ c ∷ []) k l
  stands_more past c k l st ns = record {
    earlier = st.earlier;
    entry = st.entry;
    later = st.later ++ c ∷ [];
    split = ap (λ p. p ++ c ∷ []) st.split ∙ append_assoc st.earlier (st.entry ∷ st.later) (c ∷ []);
    enters = st.enters;
    kept = All-push (λ v. Strikes v k → ⊥) st.later c st.kept ns;
  }

  stands_less : (past : List (Made S)) (c : Made S) (k : ℕ) (l : Line) → Stands (past ++ c ∷ []) k l → Enters c k l ⊎ (Stands past k l × (Strikes c k → ⊥))
  stands_less past c k l st =
      ⊎_elim
      (λ q. inl (subst (λ v. Enters v k l) q.0 st.enters))
      (λ t.
      let u = unpush (λ v. Strikes v k → ⊥) t.0 c (subst (AllByRecursion (λ v. Strikes v k → ⊥)) t.1 st.kept) in
      inr (record { earlier = st.earlier; entry = st.entry; later = t.0; split = t.2; enters = st.enters; kept = u.0 }, u.1))
      (split_last past c st.earlier st.entry st.later st.split)

  -- the same lines stand after one more call each, where both calls enter and strike the same
  stands_also : (p q : List (Made S)) (c d : Made S) → ((k : ℕ) (l : Line) → Stands p k l → Stands q k l) → ((k : ℕ) (l : Line) → Enters c k l → Enters d k l) → ((k : ℕ) → Strikes d k → Strikes c k)
      → (k : ℕ) (l : Line) → Stands (p ++ c ∷ []) k l → Stands (q ++ d ∷ []) k l
  stands_also p q c d to enters strikes k l st =
      ⊎_elim
      (λ en. record { earlier = q; entry = d; later = []; split = refl; enters = enters k l en; kept = tt })
      (λ s. stands_more q d k l (to k l s.0) (λ hit. s.1 (strikes k hit)))
      (stands_less p c k l st)

  pub same_after : (p q : List (Made S)) (c d : Made S) → SameSheet (Stands p) (Stands q) → ((k : ℕ) (l : Line) → (Enters c k l → Enters d k l) × (Enters d k l → Enters c k l)) → ((k : ℕ) → (Strikes c k → Strikes d k) × (Strikes d k → Strikes c k)) → SameSheet (Stands (p ++ c ∷ [])) (Stands (q ++ d ∷ []))
  same_after p q c d same enters strikes k l = (
    stands_also p q c d (λ j x. (same j x).0) (λ j x. (enters j x).0) (λ j. (strikes j).1) k l,
    stands_also q p d c (λ j x. (same j x).1) (λ j x. (enters j x).1) (λ j. (strikes j).0) k l,
  )

  -- a call that is neither a granted enter nor a granted strike
  pub idle : (sheet : Sheet) (past : List (Made S)) (c : Made S) → ((k : ℕ) (l : Line) → Enters c k l → ⊥) → ((k : ℕ) → Strikes c k → ⊥) → ShowsAll sheet past → ShowsAll sheet (past ++ c ∷ [])
  idle sheet past c ne ns h k l = (
    (λ sh. stands_more past c k l ((h k l).0 sh) (ns k)),
    (λ st. ⊎_elim (λ en. absurd (ne k l en)) (λ p. (h k l).1 p.0) (stands_less past c k l st)),
  )

  module _ (before after : List (Option Line)) (past : List (Made S)) (c : Made S) (shows : ShowsAll (Shows before) past) (k : ℕ) (within : k < length before) where
    granted_enter : (a : Asked) (l : Line) → c.call ≡ Enter k a → c.reply ≡ Some (reply.Entered (Ok tt)) → ((l : Line) → Shows before k l → ⊥) → Writes a l → after ≡ set before k (Some l) → ShowsAll (Shows after) (past ++ c ∷ [])
    granted_enter a l called replied free w e j m =
        let here = ap (λ rs. get_or rs k None) e ∙ get_or-set_same before k (Some l) None within in
        let there = λ (ne : j ≡ k → ⊥). ap (λ rs. get_or rs j None) e ∙ get_or-set_other before k j (Some l) None ne in (
          (λ sh. ⊎_elim
              (λ (at : j ≡ k).
              let same : l ≡ m = cc in
              subst (λ v. Stands (past ++ c ∷ []) v m) (sym at) (record { earlier = past; entry = c; later = []; split = refl; enters = (a, called, replied, subst (Writes a) same w); kept = tt }))
              (λ ne. stands_more past c j m ((shows j m).0 (sym (there ne) ∙ sh)) (λ s. let p = s.0 in let z : ◌≡◌ {A = ℕ} 0 1 = cc in omega arith))
              (cases_eq j k)),
          (λ st. ⊎_elim
              (λ en.
              let p = en.1 in
              let q : en.0 ≡ a = cc in
              let same : l ≡ m = writes_one a l m w (subst (λ b. Writes b m) q en.3) in
              cc)
              (λ p. ⊎_elim
              (λ (at : j ≡ k). absurd (free m (subst (λ v. Shows before v m) at ((shows j m).1 p.0))))
              (λ ne. there ne ∙ (shows j m).1 p.0)
              (cases_eq j k))
              (stands_less past c j m st)),
        )

    granted_strike : c.call ≡ Strike k → c.reply ≡ Some (reply.Struck (Ok tt)) → after ≡ set before k None → ShowsAll (Shows after) (past ++ c ∷ [])
    granted_strike called replied e j m =
        let here = ap (λ rs. get_or rs k None) e ∙ get_or-set_same before k None None within in
        let there = λ (ne : j ≡ k → ⊥). ap (λ rs. get_or rs j None) e ∙ get_or-set_other before k j None None ne in (
          (λ sh. ⊎_elim
              (λ (at : j ≡ k). absurd (let z : ◌≡◌ {A = ℕ} 0 1 = cc in omega arith))
              (λ ne. stands_more past c j m ((shows j m).0 (sym (there ne) ∙ sh)) (λ s. let p = s.0 in let at : j ≡ k = cc in ne at))
              (cases_eq j k)),
          (λ st. ⊎_elim
              (λ en. absurd (let p = en.1 in let z : ◌≡◌ {A = ℕ} 0 1 = cc in omega arith))
              (λ p. ⊎_elim
              (λ (at : j ≡ k). absurd (p.1 (subst (λ v. c.call ≡ Strike v) (sym at) called, replied)))
              (λ ne. there ne ∙ (shows j m).1 p.0)
              (cases_eq j k))
              (stands_less past c j m st)),
        )

  -- what each call leaves standing
  module _ (before after : List (Option Line)) (past : List (Made S)) (c : Made S) (shows : ShowsAll (Shows before) past) (full : length before ≡ 400) where
    pub after_enter : (n k : ℕ) (a : Asked) (r : Result (Unit {0}) Refusal) → c.call ≡ Enter k a → c.reply ≡ Some (reply.Entered r) → Entered n before k a r after → ShowsAll (Shows after) (past ++ c ∷ [])
    after_enter n k a (Ok u) called replied h =
        granted_enter before after past c shows k (omega (arith, not_above k h.0.0)) a h.1.0 called replied (λ l sh. h.0.1.1.1.1.1.0 (l, sh)) h.1.1 h.1.2
    after_enter n k a (Err e) called replied h =
        subst (λ rs. ShowsAll (Shows rs) (past ++ c ∷ [])) (sym h.1)
        (idle (Shows before) past c
        (λ j l en. let p = en.2 in let z : ◌≡◌ {A = ℕ} 0 1 = cc in omega arith)
        (λ j st. let p = st.0 in let z : ◌≡◌ {A = ℕ} 0 1 = cc in omega arith)
        shows)

    pub after_strike : (k : ℕ) (r : Result (Unit {0}) Refusal) → c.call ≡ Strike k → c.reply ≡ Some (reply.Struck r) → Struck before k r after → ShowsAll (Shows after) (past ++ c ∷ [])
    after_strike k (Ok u) called replied h = granted_strike before after past c shows k (omega (arith, not_above k h.0.0)) called replied h.1
    after_strike k (Err e) called replied h =
        subst (λ rs. ShowsAll (Shows rs) (past ++ c ∷ [])) (sym h.1)
        (idle (Shows before) past c
        (λ j l en. let p = en.1 in let z : ◌≡◌ {A = ℕ} 0 1 = cc in omega arith)
        (λ j st. let p = st.1 in let z : ◌≡◌ {A = ℕ} 0 1 = cc in omega arith)
        shows)

  -- nothing stands before the first call
  pub nothing_stands : (records : List (Option Line)) → records ≡ replicate 400 None → ShowsAll {S = S} (Shows records) []
  nothing_stands records e k l = (
    (λ sh. absurd (let h = ap (λ rs. get_or rs k None) e ∙ none_everywhere 400 k in let z : ◌≡◌ {A = ℕ} 0 1 = cc in omega arith)),
    (λ st. absurd (stands_none k l st)),
  )
