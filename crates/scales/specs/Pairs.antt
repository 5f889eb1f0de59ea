-- Stepless times: pairs of whole numbers, of which the second counts steps smaller than any part of the first.
use Rattle.std.specs.Prelude.{ℕ, zero, suc, ◌+◌, Bool, true, false, cond, List, [], ◌∷◌, ◌++◌, ℤ, pos, negsuc, ◌+ℤ◌, neg_ℤ, decimal, int_le, int_lt, unsigned_abs}
use Rattle.std.specs.Fmt.{signed_decimal}

pub record Pair : Type 0 where
  pub ms : ℤ
  pub steps : ℤ

abbrev pub pair : ℤ → ℤ → Pair
pair c k = record { ms = c; steps = k }

-- part by part
abbrev pub sum_of : Pair → Pair → Pair
sum_of x y = pair (x.ms +ℤ y.ms) (x.steps +ℤ y.steps)

abbrev pub opposite : Pair → Pair
opposite x = pair (neg_ℤ x.ms) (neg_ℤ x.steps)

-- x is not after y: by the milliseconds, and by the steps where those are equal
abbrev pub leads : Pair → Pair → Bool
leads x y = cond (int_lt x.ms y.ms) true (cond (int_lt y.ms x.ms) false (int_le x.steps y.steps))

abbrev pub extent : Pair → ℕ
extent x = unsigned_abs x.ms + unsigned_abs x.steps

-- nothing for no step, else the sign and the number
abbrev pub shown_steps : ℤ → List ℕ
shown_steps (pos zero) = []
shown_steps (pos (suc k)) = 43 ∷ decimal (suc k)
shown_steps (negsuc k) = 45 ∷ decimal (suc k)

-- as in 4, 4+1, 4-1 and -3+2
abbrev pub shown : Pair → List ℕ
shown x = signed_decimal x.ms ++ shown_steps x.steps
