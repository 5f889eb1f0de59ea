-- Bounds on times, and what it is to meet them.
use Rattle.std.specs.Prelude.{◌≡◌, ℕ, ◌<◌, ◌≤◌, cond, List, map, length, slice_index_or}
use Rattle.std.specs.List.{ContainsAt as Has}
use Rattle.bounds.specs.declared.edge.Edge.{Edge}
use Rattle.scales.specs.Order.{NotAfter}
use Rattle.scales.specs.declared.sums.OrderedSums.{Ghosts}

-- the time at `at` is not before the time at `from` and `by` together
pub record Bound (X : Type 0) : Type 0 where
  pub at : ℕ
  pub from : ℕ
  pub by : X

-- the largest size that the time of a bound may have
abbrev pub largest : ℕ
largest = 1000150

-- how many strides below zero a low start must lie: twice n + 3, where n is 200. What n + 3 bounds reach from the start then
-- lies nearer to the start, and what they reach from the origin nearer to zero
abbrev pub strides : ℕ
strides = 406

module _ {S : Type 0} (m : Ghosts S) where
  -- a time for each device and, behind the last, for the origin
  abbrev pub Times : Type 0
  Times = ℕ → m.Time

  -- the times of a row, and zero past its end
  abbrev pub times_of : List S → Times
  times_of row x = slice_index_or (map m.means row) x m.zero

  -- the earliest that b lets b .at be
  abbrev pub asked : Times → Bound m.Time → m.Time
  asked t b = m.plus (t b.from) b.by

  abbrev pub Meets : List (Bound m.Time) → Times → Type 0
  Meets bs t = (b : Bound m.Time) → Has bs b → NotAfter m (asked t b) (t b.at)

  -- t meets each bound, with the origin of n devices at zero
  pub record Solves (n : ℕ) (bs : List (Bound m.Time)) (t : Times) : Type 0 where
    pub meets : Meets bs t
    pub origin : t n ≡ m.zero

  -- none of n devices is before the start
  abbrev pub NowhereBefore : ℕ → m.Time → Times → Type 0
  NowhereBefore n start t = (x : ℕ) → x < n → NotAfter m start (t x)

  -- the bound that an edge stands for
  abbrev pub bound_of : List S → Edge → Bound m.Time
  bound_of weights e = record {
    at = e.at;
    from = e.from;
    by = cond e.opposed (m.opposed (times_of weights e.weight)) (times_of weights e.weight);
  }

  abbrev pub bounds : List S → List Edge → List (Bound m.Time)
  bounds weights es = map (bound_of weights) es

  -- an edge among n devices and the origin, of a weight that is there and not too large
  pub record Fit (n : ℕ) (weights : List S) (e : Edge) : Type 0 where
    pub at_in : e.at ≤ n
    pub from_in : e.from ≤ n
    pub weight_in : e.weight < length weights
    pub short : m.size (times_of weights e.weight) ≤ largest

  abbrev pub Ready : ℕ → List S → List Edge → Type 0
  Ready n weights es = (e : Edge) → Has es e → Fit n weights e
