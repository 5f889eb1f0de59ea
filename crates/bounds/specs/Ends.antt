-- The least time of one device over all solutions, wherever they lie.
use Rattle.std.specs.Prelude.{◌≡◌, ℕ, ◌≤◌, List, Some, None, Ok, Err, Option, Result}
use Rattle.scales.specs.Order.{NotAfter, Before}
use Rattle.scales.specs.declared.sums.OrderedSums.{Ghosts}
use Rattle.bounds.specs.declared.system.Unmet.{Unmet}
use Rattle.bounds.specs.Bounds.{Bound, Times, Meets, Solves}

module _ {S : Type 0} (m : Ghosts S) where
  -- some solution gives x the time v
  abbrev pub Attains : ℕ → List (Bound m.Time) → ℕ → m.Time → Type 0
  Attains n bs x v = (s : Times m) × Solves m n bs s × (s x ≡ v)

  -- x has no times at all, or no least time, or this one, which is not large
  abbrev pub LeastEnd : ℕ → List (Bound m.Time) → ℕ → Result (Option S) Unmet → Type 0
  LeastEnd n bs x (Err u) = (s : Times m) → Meets m bs s → ⊥
  LeastEnd n bs x (Ok None) = (v : m.Time) → (s : Times m) × Solves m n bs s × Before m (s x) v
  LeastEnd n bs x (Ok (Some v)) = Attains n bs x (m.means v) × ((s : Times m) → Solves m n bs s → NotAfter m (m.means v) (s x)) × (m.size (m.means v) ≤ 3000000000)
