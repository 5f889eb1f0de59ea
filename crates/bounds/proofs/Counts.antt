-- How many numbers below k pass a test.
use Rattle.std.proofs.Common.{◌≡◌, ℕ, zero, suc, ◌+◌, ◌<◌, ◌≤◌, Bool, true, false, cond, T, ◌⊎◌, sym, refl, subst, ⊎_elim, eq-or-lt_of_le, arith}

abbrev one : Bool → ℕ
one b = cond b 1 0

abbrev pub count : (ℕ → Bool) → ℕ → ℕ
count P zero = 0
count P (suc k) = one (P k) + count P k

pub at_or_below : (x k : ℕ) → x < suc k → (x ≡ k) ⊎ (x < k)
at_or_below x k h =
    let le : x ≤ k = omega arith in
    eq-or-lt_of_le le

one_le : (b c : Bool) → (T b → T c) → one b ≤ one c
one_le true true h = omega arith
one_le true false h = absurd (h tt)
one_le false true h = omega arith
one_le false false h = omega arith

one_lt : (b c : Bool) → (T b → ⊥) → T c → one b + 1 ≤ one c
one_lt true c h k = absurd (h tt)
one_lt false true h k = omega arith
one_lt false false h k = absurd k

pub count_all : (k : ℕ) → count (λ _. true) k ≡ k
count_all zero = refl
count_all (suc k) = omega (arith, count_all k)

count_le : (P Q : ℕ → Bool) (k : ℕ) → ((x : ℕ) → x < k → T (P x) → T (Q x)) → count P k ≤ count Q k
count_le P Q zero h = omega arith
count_le P Q (suc k) h =
    omega (arith, one_le (P k) (Q k) (h k (omega arith)), count_le P Q k (λ x l. h x (omega arith)))

-- fewer pass the narrower test, where it leaves out some number that passes the wider
pub count_lt : (P Q : ℕ → Bool) (k x : ℕ) → ((y : ℕ) → y < k → T (P y) → T (Q y)) → x < k → (T (P x) → ⊥) → T (Q x) → count P k < count Q k
count_lt P Q zero x h l out in' = absurd (omega arith)
count_lt P Q (suc k) x h l out in' =
    ⊎_elim
    (λ e. omega (arith, one_lt (P k) (Q k) (λ p. out (subst (λ y. T (P y)) (sym e) p)) (subst (λ y. T (Q y)) e in'), count_le P Q k (λ y b. h y (omega arith))))
    (λ b. omega (arith, one_le (P k) (Q k) (h k (omega arith)), count_lt P Q k x (λ y c. h y (omega arith)) b out in'))
    (at_or_below x k l)
