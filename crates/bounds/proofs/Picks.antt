-- Of some numbers below k, one with the least time.
use Rattle.std.proofs.Common.{ℕ, zero, suc, ◌<◌, Bool, true, false, T, ◌⊎◌, sym, ap, subst, inl, inr, ⊎_elim, arith}
use Rattle.scales.specs.declared.sums.OrderedSums.{Ghosts}
use Rattle.scales.specs.Order.{NotAfter}
use Rattle.scales.proofs.Lawful.{Laws}
use Rattle.scales.proofs.Order.{either, same, weaken}
use Rattle.bounds.proofs.Counts.{at_or_below}

decide : (b : Bool) → T b ⊎ (T b → ⊥)
decide true = inl tt
decide false = inr (λ h. h)

-- of the numbers below k that pass, one with the least time
pub record Pick {S : Type 0} (m : Ghosts S) (P : ℕ → Bool) (f : ℕ → m.Time) (k : ℕ) : Type 0 where
  pub place : ℕ
  pub within : place < k
  pub passes : T (P place)
  pub least : (y : ℕ) → y < k → T (P y) → NotAfter m (f place) (f y)

module _ {S : Type 0} (m : Ghosts S) (laws : Laws m) (P : ℕ → Bool) (f : ℕ → m.Time) where
  keep : (k : ℕ) → (l : Pick m P f k) → (T (P k) → NotAfter m (f l.place) (f k)) → Pick m P f (suc k)
  keep k l h = record {
    place = l.place;
    within = omega (arith, l.within);
    passes = l.passes;
    least = λ y b p. ⊎_elim (λ e. let Q : ℕ → Type 0 = λ z. T (P z) → NotAfter m (f l.place) (f z) in subst Q (sym e) h p) (λ c. l.least y c p) (at_or_below y k b);
  }

  fresh : (k : ℕ) → T (P k) → ((y : ℕ) → y < k → T (P y) → NotAfter m (f k) (f y)) → Pick m P f (suc k)
  fresh k p h = record {
    place = k;
    within = omega arith;
    passes = p;
    least = λ y b q. ⊎_elim (λ e. same m laws (ap f (sym e))) (λ c. h y c q) (at_or_below y k b);
  }

  -- none passes, or one of those that pass has the least time
  pub pick : (k : ℕ) → ((y : ℕ) → y < k → T (P y) → ⊥) ⊎ Pick m P f k
  pick zero = inl (λ y h p. omega arith)
  pick (suc k) =
      ⊎_elim
      (λ none. ⊎_elim (λ p. inr (fresh k p (λ y b q. absurd (none y b q)))) (λ np. inl (λ y b q. ⊎_elim (λ e. np (subst (λ z. T (P z)) e q)) (λ c. none y c q) (at_or_below y k b))) (decide (P k)))
      (λ l.
      ⊎_elim
      (λ p. ⊎_elim (λ le. inr (keep k l (λ _. le))) (λ more. inr (fresh k p (λ y b q. laws.transitive _ _ _ (weaken m laws _ _ more) (l.least y b q)))) (either m (f l.place) (f k)))
      (λ np. inr (keep k l (λ p. absurd (np p))))
      (decide (P k)))
      (pick k)
