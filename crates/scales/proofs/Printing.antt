-- How steps other than none are shown: by their sign and their digits.
use Rattle.std.specs.Prelude.{◌≡◌, zero, suc, true, false, ◌∷◌, ℤ, pos, negsuc, decimal, ◌≢◌, int_lt, unsigned_abs, refl}
use Rattle.std.proofs.Common.{arith}
use Rattle.std.proofs.lemmas.Int.{ints}
use Rattle.scales.specs.Pairs.{shown_steps}

pub steps_below : (k : ℤ) → int_lt k (pos 0) ≡ true → shown_steps k ≡ 45 ∷ decimal (unsigned_abs k)
steps_below (pos k) h = absurd (grind (arith, ints))
steps_below (negsuc k) h = refl

pub steps_above : (k : ℤ) → int_lt k (pos 0) ≡ false → (k ≢ pos 0) → shown_steps k ≡ 43 ∷ decimal (unsigned_abs k)
steps_above (pos zero) h ne = absurd (ne refl)
steps_above (pos (suc k)) h ne = refl
steps_above (negsuc k) h ne = absurd (grind (arith, ints))
