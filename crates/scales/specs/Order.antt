-- The order of times, in words.
use Rattle.std.specs.Prelude.{T}
use Rattle.scales.specs.declared.sums.OrderedSums.{Ghosts}

module _ {S : Type 0} (m : Ghosts S) where
  abbrev pub NotAfter : m.Time → m.Time → Type 0
  NotAfter x y = T (m.notafter x y)

  -- strictly
  abbrev pub Before : m.Time → m.Time → Type 0
  Before x y = NotAfter y x → ⊥
