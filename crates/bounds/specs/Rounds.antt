-- One round towards least times: what the bounds ask of the old times, all at once.
use Rattle.std.specs.Prelude.{◌≡◌, ℕ, ◌<◌, ◌≤◌, Bool, true, false, ◌⊎◌, List, length}
use Rattle.std.specs.List.{ContainsAt as Has}
use Rattle.scales.specs.Order.{NotAfter, Before}
use Rattle.scales.specs.declared.sums.OrderedSums.{Ghosts}
use Rattle.bounds.specs.Bounds.{Bound, Times, times_of, asked}

module _ {S : Type 0} (m : Ghosts S) where
  -- no time of the row has a size above k
  abbrev pub Small : ℕ → List S → Type 0
  Small k row = (x : ℕ) → x < length row → m.size (times_of m row x) ≤ k

  -- every device is at the start, and the origin at zero
  pub record Begun (n : ℕ) (start : m.Time) (t : Times m) : Type 0 where
    pub devices : (x : ℕ) → x < n → t x ≡ start
    pub origin : t n ≡ m.zero

  -- what one bound does to the new times
  pub record Raised (b : Bound m.Time) (old before after : List S) : Type 0 where
    pub up : (x : ℕ) → NotAfter m (times_of m before x) (times_of m after x)
    pub held : NotAfter m (asked m (times_of m old) b) (times_of m after b.at)
    pub why : (x : ℕ) → (times_of m after x ≡ times_of m before x) ⊎ ((x ≡ b.at) × (times_of m after x ≡ asked m (times_of m old) b))

  -- v is what some bound asks for at x
  pub record Cause (bs : List (Bound m.Time)) (t : Times m) (x : ℕ) (v : m.Time) : Type 0 where
    pub bound : Bound m.Time
    pub has : Has bs bound
    pub place : x ≡ bound.at
    pub value : v ≡ asked m t bound

  -- one round of all bounds takes the times t to u
  pub record Round (bs : List (Bound m.Time)) (t u : Times m) : Type 0 where
    pub up : (x : ℕ) → NotAfter m (t x) (u x)
    pub held : (b : Bound m.Time) → Has bs b → NotAfter m (asked m t b) (u b.at)
    pub why : (x : ℕ) → (u x ≡ t x) ⊎ Cause bs t x (u x)

  -- u is later than t at some of k places
  pub record Changed (k : ℕ) (t u : Times m) : Type 0 where
    pub place : ℕ
    pub within : place < k
    pub later : Before m (t place) (u place)

  -- whether u is nowhere later than t at k places
  abbrev pub Compared : ℕ → Times m → Times m → Bool → Type 0
  Compared k t u true = (x : ℕ) → x < k → NotAfter m (u x) (t x)
  Compared k t u false = Changed k t u
