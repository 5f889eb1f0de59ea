-- How a time comes about: from the start or from the origin, by bounds one after another.
use Rattle.std.specs.Prelude.{ℕ, suc, ◌<◌, List}
use Rattle.std.specs.List.{ContainsAt as Has}
use Rattle.scales.specs.declared.sums.OrderedSums.{Ghosts}
use Rattle.bounds.specs.Bounds.{Bound}

-- where a time comes from: the start of a device, or the origin
pub data Source : Type 0 where
  from_start : Source
  from_origin : Source

module _ {S : Type 0} (m : Ghosts S) where
  -- v comes about at x by at most r bounds
  pub data Reached (bs : List (Bound m.Time)) (n : ℕ) (start : m.Time) : Source → ℕ → ℕ → m.Time → Type 0 where
    device : {x : ℕ} → x < n → Reached bs n start from_start 0 x start
    origin : Reached bs n start from_origin 0 n m.zero
    stay : {o : Source} {r x : ℕ} {v : m.Time} → Reached bs n start o r x v → Reached bs n start o (suc r) x v
    step : {o : Source} {r : ℕ} {v : m.Time} (b : Bound m.Time) → Has bs b → Reached bs n start o r b.from v → Reached bs n start o (suc r) b.at (m.plus v b.by)
