-- How long printed times are, and that different ones differ.
use Rattle.std.specs.Prelude.{◌≡◌, ℕ, zero, suc, ◌^◌, ◌<◌, ◌≤◌, List, [], ◌∷◌, ◌++◌, length, ℤ, pos, negsuc, decimal, ◌≢◌, unsigned_abs, refl}
use Rattle.std.proofs.Common.{sym, ap, subst, ◌∙◌, arith, length-append}
use Rattle.std.specs.Int.Signed.{mag}
use Rattle.std.specs.Str.Parse.{AllDigits}
use Rattle.std.specs.Char.{digit_value}
use Rattle.std.specs.Fmt.{signed_decimal}
use Rattle.std.proofs.lemmas.Fmt.{decimal_is_IsNumeral, decimal_nonempty, length-decimal-le, length_signed_le, decimal_injective, signed_decimal_injective}
use Rattle.scales.specs.Pairs.{Pair, pair, extent, shown, shown_steps}

mag_le : (z : ℤ) → mag z ≤ unsigned_abs z
mag_le (pos n) = omega arith
mag_le (negsuc n) = omega arith

pub signed_brief : (z : ℤ) → unsigned_abs z ≤ 1000000000000 → length (signed_decimal z) ≤ 14
signed_brief z h = length_signed_le 13 z (omega (arith, mag_le z)) (omega (arith, mag_le z))

pub signed_legible : (y z : ℤ) → unsigned_abs y ≤ 1000000000000 → unsigned_abs z ≤ 1000000000000 → signed_decimal y ≡ signed_decimal z → y ≡ z
signed_legible y z h k e = signed_decimal_injective y z (omega (arith, mag_le y)) (omega (arith, mag_le z)) e

pub steps_brief : (k : ℤ) → unsigned_abs k ≤ 1000000000000 → length (shown_steps k) ≤ 14
steps_brief (pos zero) h = omega arith
steps_brief (pos (suc k)) h = omega (arith, length-decimal-le 13 (suc k) (omega arith) (omega arith) (omega arith))
steps_brief (negsuc k) h = omega (arith, length-decimal-le 13 (suc k) (omega arith) (omega arith) (omega arith))

pub shown_brief : (x : Pair) → extent x ≤ 1000000000000 → length (shown x) ≤ 28
shown_brief x h =
    omega (arith, length-append (signed_decimal x.ms) (shown_steps x.steps), signed_brief x.ms (omega arith), steps_brief x.steps (omega arith))

-- the list is empty, or begins with no digit
abbrev Stops : List ℕ → Type 0
Stops [] = Unit {0}
Stops (b ∷ bs) = digit_value b < 10 → ⊥

-- where digits end, they end in one way
same_front : (ds es xs ys : List ℕ) → AllDigits 10 ds → AllDigits 10 es → Stops xs → Stops ys → ds ++ xs ≡ es ++ ys → (ds ≡ es) × (xs ≡ ys)
same_front [] [] xs ys p q s t e = (refl, e)
same_front [] (b ∷ es) [] ys p q s t e = absurd (let z : ◌≡◌ {A = ℕ} 0 1 = cc in omega arith)
same_front [] (b ∷ es) (x ∷ xs) ys p q s t e = absurd (let h : b ≡ x = cc in s (subst (λ d. digit_value d < 10) h q.0))
same_front (b ∷ ds) [] xs [] p q s t e = absurd (let z : ◌≡◌ {A = ℕ} 0 1 = cc in omega arith)
same_front (b ∷ ds) [] xs (y ∷ ys) p q s t e = absurd (let h : b ≡ y = cc in t (subst (λ d. digit_value d < 10) h p.0))
same_front (b ∷ ds) (d ∷ es) xs ys p q s t e =
    let h : b ≡ d = cc in
    let rest = same_front ds es xs ys p.1 q.1 s t (cc) in
    let r = rest.0 in
    (cc, rest.1)

steps_stop : (k : ℤ) → Stops (shown_steps k)
steps_stop (pos zero) = tt
steps_stop (pos (suc k)) = λ h. omega arith
steps_stop (negsuc k) = λ h. omega arith

steps_legible : (j k : ℤ) → unsigned_abs j ≤ 1000000000000 → unsigned_abs k ≤ 1000000000000 → shown_steps j ≡ shown_steps k → j ≡ k
steps_legible (pos zero) (pos zero) g h e = refl
steps_legible (pos zero) (pos (suc k)) g h e = absurd (let z : ◌≡◌ {A = ℕ} 0 1 = cc in omega arith)
steps_legible (pos zero) (negsuc k) g h e = absurd (let z : ◌≡◌ {A = ℕ} 0 1 = cc in omega arith)
steps_legible (pos (suc j)) (pos zero) g h e = absurd (let z : ◌≡◌ {A = ℕ} 0 1 = cc in omega arith)
steps_legible (pos (suc j)) (pos (suc k)) g h e = ap pos (decimal_injective (suc j) (suc k) (omega arith) (omega arith) (cc))
steps_legible (pos (suc j)) (negsuc k) g h e = absurd (let z : ◌≡◌ {A = ℕ} 43 45 = cc in omega arith)
steps_legible (negsuc j) (pos zero) g h e = absurd (let z : ◌≡◌ {A = ℕ} 0 1 = cc in omega arith)
steps_legible (negsuc j) (pos (suc k)) g h e = absurd (let z : ◌≡◌ {A = ℕ} 43 45 = cc in omega arith)
steps_legible (negsuc j) (negsuc k) g h e =
    let same : suc j ≡ suc k = decimal_injective (suc j) (suc k) (omega arith) (omega arith) (cc) in
    ap negsuc (omega arith)

-- no number is written as nothing
decimal_not_nil : (n : ℕ) → n < 2 ^ 64 → decimal n ≢ []
decimal_not_nil n h e = omega (arith, decimal_nonempty n h, ap length e)

digits_of : (n : ℕ) → n ≤ 1000000000000 → AllDigits 10 (decimal n)
digits_of n h = (decimal_is_IsNumeral n (omega arith)).0.1

signed_front : (y z : ℤ) (xs ys : List ℕ) → unsigned_abs y ≤ 1000000000000 → unsigned_abs z ≤ 1000000000000 → Stops xs → Stops ys → signed_decimal y ++ xs ≡ signed_decimal z ++ ys → (y ≡ z) × (xs ≡ ys)
signed_front (pos m) (pos n) xs ys g h s t e =
    let both = same_front (decimal m) (decimal n) xs ys (digits_of m g) (digits_of n h) s t e in
    (ap pos (decimal_injective m n (omega arith) (omega arith) both.0), both.1)
signed_front (pos m) (negsuc n) xs ys g h s t e =
    absurd (decimal_not_nil m (omega arith) (same_front (decimal m) [] xs (45 ∷ (decimal (suc n) ++ ys)) (digits_of m g) tt s (λ d. omega arith) e).0)
signed_front (negsuc m) (pos n) xs ys g h s t e =
    absurd (decimal_not_nil n (omega arith) (same_front (decimal n) [] ys (45 ∷ (decimal (suc m) ++ xs)) (digits_of n h) tt t (λ d. omega arith) (sym e)).0)
signed_front (negsuc m) (negsuc n) xs ys g h s t e =
    let both = same_front (decimal (suc m)) (decimal (suc n)) xs ys (digits_of (suc m) g) (digits_of (suc n) h) s t (cc) in
    let same : suc m ≡ suc n = decimal_injective (suc m) (suc n) (omega arith) (omega arith) both.0 in
    (ap negsuc (omega arith), both.1)

pub shown_legible : (x y : Pair) → extent x ≤ 1000000000000 → extent y ≤ 1000000000000 → shown x ≡ shown y → x ≡ y
shown_legible x y g h e =
    let both = signed_front x.ms y.ms (shown_steps x.steps) (shown_steps y.steps) (omega arith) (omega arith) (steps_stop x.steps) (steps_stop y.steps) e in
    let steps = steps_legible x.steps y.steps (omega arith) (omega arith) both.1 in
    ap (λ c. pair c x.steps) both.0 ∙ ap (pair y.ms) steps
