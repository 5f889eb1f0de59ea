-- Bounds with their ends exchanged.
use Rattle.std.specs.Prelude.{ℕ, List, map}
use Rattle.scales.specs.declared.sums.OrderedSums.{Ghosts}
use Rattle.bounds.specs.declared.edge.Edge.{Edge}
use Rattle.bounds.specs.Bounds.{Times, Solves, bounds}

abbrev pub exchanged : Edge → Edge
exchanged e = record { at = e.from; from = e.at; weight = e.weight; opposed = e.opposed }

module _ {S : Type 0} (m : Ghosts S) where
  -- times solve the edges exactly when their opposites solve the exchanged edges
  abbrev pub Mirrored : Type 0
  Mirrored =
      (n : ℕ) (weights : List S) (es : List Edge) (t : Times m) →
      (Solves m n (bounds m weights es) t → Solves m n (bounds m weights (map exchanged es)) (λ x. m.opposed (t x)))
      × (Solves m n (bounds m weights (map exchanged es)) t → Solves m n (bounds m weights es) (λ x. m.opposed (t x)))
