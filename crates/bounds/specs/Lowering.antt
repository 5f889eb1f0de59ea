-- Which least times from a low start can be lowered, and which not.
use Rattle.std.specs.Prelude.{ℕ, ◌<◌, ◌≤◌, Bool, cond, T, List}
use Rattle.scales.specs.Low.{Low}
use Rattle.scales.specs.Order.{NotAfter, Before}
use Rattle.scales.specs.declared.sums.OrderedSums.{Ghosts}
use Rattle.bounds.specs.declared.edge.Edge.{Edge}
use Rattle.bounds.specs.Bounds.{Bound, Times, Solves, Ready, bounds, largest, strides}
use Rattle.bounds.specs.Least.{Least}

module _ {S : Type 0} (m : Ghosts S) where
  -- v is held by the start, and not by the bounds: it lies nearer to the start than to zero
  abbrev pub held_by_start : m.Time → m.Time → Bool
  held_by_start start v = m.notafter (m.plus v v) start

  -- t, with all that the start holds put earlier by d, and all else kept
  abbrev pub lowered : m.Time → m.Time → Times m → Times m
  lowered start d t x = cond (held_by_start start (t x)) (m.plus (t x) (m.opposed d)) (t x)

  pub record Loose (n : ℕ) (bs : List (Bound m.Time)) (start : m.Time) (t : Times m) : Type 0 where
    -- what the start holds can all be put earlier together, by any time that is not before zero, all else kept
    pub lower : (d : m.Time) → NotAfter m m.zero d → Solves m n bs (lowered start d t)
    -- there is no limit to how early that puts a device
    pub unlimited : (x : ℕ) → T (held_by_start start (t x)) → (v : m.Time) → (d : m.Time) × NotAfter m m.zero d × Before m (lowered start d t x) v
    -- and no solution puts any other device earlier
    pub firm : (x : ℕ) → x < n → (T (held_by_start start (t x)) → ⊥) → (s : Times m) → Solves m n bs s → NotAfter m (t x) (s x)

  -- all least times from a low start are so
  abbrev pub Lowering : Type 0
  Lowering =
      (n : ℕ) (weights : List S) (es : List Edge) (start : m.Time) (t : Times m) →
      n ≤ 200 → Ready m n weights es → Low m largest strides start → Least m n (bounds m weights es) start t → Loose n (bounds m weights es) start t
