-- What can be said of least times under bounds.
use Rattle.std.specs.Prelude.{ℕ, ◌+◌, ◌*◌, ◌<◌, ◌≤◌, List, Ok, Err, Result}
use Rattle.scales.specs.Low.{Low}
use Rattle.scales.specs.Order.{NotAfter}
use Rattle.scales.specs.declared.sums.OrderedSums.{Ghosts}
use Rattle.bounds.specs.Bounds.{Bound, Times, Meets, Solves, NowhereBefore, largest}
use Rattle.bounds.specs.declared.system.Unmet.{Unmet}
use Rattle.bounds.specs.Reach.{Source, Reached}

module _ {S : Type 0} (m : Ghosts S) where
  -- t is the least of the solutions that put none of n devices before the start
  pub record Least (n : ℕ) (bs : List (Bound m.Time)) (start : m.Time) (t : Times m) : Type 0 where
    pub solves : Solves m n bs t
    pub above : NowhereBefore m n start t
    pub least : (s : Times m) → Solves m n bs s → NowhereBefore m n start s → (x : ℕ) → x < n → NotAfter m (t x) (s x)
    pub reached : (x : ℕ) → x ≤ n → (o : Source) × Reached m bs n start o (n + 2) x (t x)
    pub small : (x : ℕ) → x ≤ n → m.size (t x) ≤ m.size start + (n + 2) * largest

  -- no solution puts every device at the start or later; and where the start is low, no times meet the bounds at all
  pub record NoTimes (n : ℕ) (bs : List (Bound m.Time)) (start : m.Time) : Type 0 where
    pub above : (s : Times m) → Solves m n bs s → NowhereBefore m n start s → ⊥
    pub anywhere : Low m largest (n + 2) start → (s : Times m) → Meets m bs s → ⊥

  -- the least times were found, or there are none
  abbrev pub Searched : ℕ → List (Bound m.Time) → m.Time → Times m → Result (Unit {0}) Unmet → Type 0
  Searched n bs start t (Ok u) = Least n bs start t
  Searched n bs start t (Err u) = NoTimes n bs start
