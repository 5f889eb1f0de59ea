-- A session that cannot be opened has one fault.
use Rattle.std.proofs.Common.{◌≡◌, ℕ, ◌+◌, ◌<◌, ◌⊎◌, List, length, sym, refl, ◌∙◌, inl, inr, ⊎_elim, arith, lit<, below_more}
use Rattle.std.proofs.lemmas.Bool.{both_ways, cases_Bool, cases_lt}
use Rattle.session.specs.declared.fault.Cause.TheVariants.{BadHeading, TooLong}
use Rattle.session.specs.declared.fault.Fault.{Fault}
use Rattle.session.specs.declared.fault.Layer.TheVariants as layer
use Rattle.session.specs.Headings.{FirstWrong, Opened, RightUpTo, Unopenable, byte_at, right}

-- a place that is right is not the first that is wrong
wrong_behind : (bs : List ℕ) (i k : ℕ) → FirstWrong bs i → RightUpTo bs k → i < k → ⊥
wrong_behind bs i k w r h = let there = r i h in both_ways _ (w.wrong there.0) there.1

same_place : (bs : List ℕ) (i k : ℕ) → FirstWrong bs i → FirstWrong bs k → i ≡ k
same_place bs i k a b =
    ⊎_elim (λ h. absurd (wrong_behind bs i k a b.before h))
    (λ h. ⊎_elim (λ l. absurd (wrong_behind bs k i b a.before l)) (λ l. omega arith) (cases_lt k i))
    (cases_lt i k)

same_fault : (f g : Fault) → f.cause ≡ g.cause → f.place ≡ g.place → f.layer ≡ g.layer → f ≡ g
same_fault f g c p l = λ i. record { cause = c i; place = p i; layer = l i }

pub unopenable_one : (bs : List ℕ) (f g : Fault) → Unopenable bs f → Unopenable bs g → f ≡ g
unopenable_one bs f g (inl a) (inl b) = same_fault f g (a.cause ∙ sym b.cause) (a.place ∙ sym b.place) (a.layer ∙ sym b.layer)
unopenable_one bs f g (inl a) (inr b) = absurd (omega (arith, a.long, b.short))
unopenable_one bs f g (inr a) (inl b) = absurd (omega (arith, b.long, a.short))
unopenable_one bs f g (inr a) (inr b) = same_fault f g (a.cause ∙ sym b.cause) (same_place bs f.place g.place a.first b.first) (a.layer ∙ sym b.layer)

pub opened_unopenable : (bs : List ℕ) (f : Fault) → Opened bs → Unopenable bs f → ⊥
opened_unopenable bs f o (inl a) = omega (arith, o.short, a.long)
opened_unopenable bs f o (inr a) = wrong_behind bs f.place 6 a.first o.heading a.first.inside

module _ (bs : List ℕ) where
  -- the heading is right up to k, or its first wrong or missing byte stands below k
  abbrev Checked : ℕ → Type 0
  Checked k = RightUpTo bs k ⊎ ((i : ℕ) × FirstWrong bs i)

  one_more : (k : ℕ) → k < 6 → RightUpTo bs k → Checked (k + 1)
  one_more k h r =
      ⊎_elim
      (λ there. ⊎_elim (λ e. inl (below_more _ k r (there, e))) (λ e. inr (k, record { inside = h; before = r; wrong = λ _. e })) (cases_Bool (right k (byte_at bs k))))
      (λ past. inr (k, record { inside = h; before = r; wrong = λ there. absurd (omega arith) }))
      (cases_lt k (length bs))

  go_on : (k : ℕ) → k < 6 → Checked k → Checked (k + 1)
  go_on k h c = ⊎_elim (one_more k h) inr c

  pub headed : Checked 6
  headed = go_on 5 (lit< tt) (go_on 4 (lit< tt) (go_on 3 (lit< tt) (go_on 2 (lit< tt) (go_on 1 (lit< tt) (go_on 0 (lit< tt) (inl (λ i h. absurd (omega arith))))))))

-- every session is opened, or has a fault in its heading
pub opened_or_not : (bs : List ℕ) → Opened bs ⊎ ((f : Fault) × Unopenable bs f)
opened_or_not bs =
    ⊎_elim
    (λ long. inr (record { cause = TooLong; place = 60000; layer = layer.Heading }, inl (record { long = long; cause = refl; place = refl; layer = refl })))
    (λ short.
    ⊎_elim (λ r. inl (record { short = short; heading = r }))
    (λ w. inr (record { cause = BadHeading; place = w.0; layer = layer.Heading }, inr (record { short = short; cause = refl; layer = refl; first = w.1 })))
    (headed bs))
    (cases_lt 60000 (length bs))
