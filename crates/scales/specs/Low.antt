-- When a start lies low enough: no short walk from it comes up to zero.
use Rattle.std.specs.Prelude.{ℕ, zero, suc, ◌≤◌}
use Rattle.scales.specs.declared.sums.OrderedSums.{Ghosts}
use Rattle.scales.specs.Order.{NotAfter, Before}

module _ {S : Type 0} (m : Ghosts S) where
  -- x and then k times y
  abbrev pub walked : m.Time → m.Time → ℕ → m.Time
  walked x y zero = x
  walked x y (suc k) = m.plus (walked x y k) y

  -- a walk of k strides from x, each of a size of at most `most`, ends before zero
  pub record Low (most k : ℕ) (x : m.Time) : Type 0 where
    -- a time that no stride is after
    pub stride : m.Time
    pub rises : NotAfter m m.zero stride
    pub longest : (y : m.Time) → m.size y ≤ most → NotAfter m y stride
    pub ends : Before m (walked x stride k) m.zero
