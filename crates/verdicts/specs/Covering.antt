-- Edges that stand for a set of lines.
use Rattle.std.specs.Prelude.{ℕ, ◌<◌, List, length}
use Rattle.std.specs.List.{ContainsAt as Has}
use Rattle.lines.specs.Bounding.{Weighs, edges_of}
use Rattle.lines.specs.Proper.{Limited}
use Rattle.lines.specs.declared.line.Line.{Line}
use Rattle.scales.specs.declared.sums.OrderedSums.{Ghosts}
use Rattle.bounds.specs.Bounds.{times_of}
use Rattle.bounds.specs.declared.edge.Edge.{Edge}

module _ {S : Type 0} (m : Ghosts S) where
  -- the edges are those of the lines, each with its weight in the row of weights
  pub record Covers (n : ℕ) (weights : List S) (es : List Edge) (lines : Line → Type 0) : Type 0 where
    pub sound : (e : Edge) → Has es e → (l : Line) × (k : ℕ) × lines l × (k < length weights) × Weighs m l (times_of m weights k) × Has (edges_of n k l) e
    pub complete : (l : Line) → lines l → (k : ℕ) × Weighs m l (times_of m weights k) × ((e : Edge) → Has (edges_of n k l) e → Has es e)
    pub limited : (l : Line) → lines l → Limited n l
