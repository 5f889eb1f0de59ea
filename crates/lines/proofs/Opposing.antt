-- Of two times exactly one holds: an operator's comparison, or that by one of its opposites.
use Rattle.std.proofs.Common.{◌≡◌, ℕ, ◌⊎◌, Some, sym, refl, subst, inl, inr, ⊎_elim, arith}
use Rattle.lines.specs.Keeping.{Compares}
use Rattle.lines.specs.Operators.{opposites}
use Rattle.lines.specs.Opposites.{OppositeOf, Opposed}
use Rattle.lines.specs.declared.operator.Operator.{Operator}
use Rattle.lines.specs.declared.operator.Operator.TheVariants.{Before, NotAfter, With, NotBefore, After}
use Rattle.scales.specs.declared.sums.OrderedSums.{Ghosts}
use Rattle.scales.proofs.Lawful.{Laws}
use Rattle.scales.proofs.Order.{either, same}

module _ {S : Type 0} (m : Ghosts S) (laws : Laws m) where
  some_holds : (o : Operator) (a b : m.Time) → Compares m o a b ⊎ ((p : Operator) × OppositeOf o p × Compares m p a b)
  some_holds Before a b = ⊎_elim (λ le. inr (NotBefore, inl refl, le)) inl (either m b a)
  some_holds NotAfter a b = ⊎_elim inl (λ lt. inr (After, inl refl, lt)) (either m a b)
  some_holds With a b =
      ⊎_elim (λ le. ⊎_elim (λ ge. inl (laws.antisymmetric a b le ge)) (λ lt. inr (Before, inl refl, lt)) (either m b a)) (λ lt. inr (After, inr refl, lt)) (either m a b)
  some_holds NotBefore a b = ⊎_elim inl (λ lt. inr (Before, inl refl, lt)) (either m b a)
  some_holds After a b = ⊎_elim (λ le. inr (NotAfter, inl refl, le)) inl (either m a b)

  first_breaks : (o : Operator) (a b : m.Time) → Compares m (opposites o).0 a b → Compares m o a b → ⊥
  first_breaks Before a b p q = q p
  first_breaks NotAfter a b p q = p q
  first_breaks With a b p q = p (same m laws (sym q))
  first_breaks NotBefore a b p q = p q
  first_breaks After a b p q = q p

  second_breaks : (o p : Operator) (a b : m.Time) → (opposites o).1 ≡ Some p → Compares m p a b → Compares m o a b → ⊥
  second_breaks Before p a b e c q = let z : ◌≡◌ {A = ℕ} 0 1 = cc in omega arith
  second_breaks NotAfter p a b e c q = let z : ◌≡◌ {A = ℕ} 0 1 = cc in omega arith
  second_breaks With p a b e c q = let is : After ≡ p = cc in subst (λ o. Compares m o a b) (sym is) c (same m laws q)
  second_breaks NotBefore p a b e c q = let z : ◌≡◌ {A = ℕ} 0 1 = cc in omega arith
  second_breaks After p a b e c q = let z : ◌≡◌ {A = ℕ} 0 1 = cc in omega arith

  pub opposed : Opposed m
  opposed = record {
    some_holds = some_holds;
    not_both = λ o p a b. ⊎_elim (λ (is : p ≡ (opposites o).0) c. first_breaks o a b (subst (λ q. Compares m q a b) is c)) (second_breaks o p a b);
  }
