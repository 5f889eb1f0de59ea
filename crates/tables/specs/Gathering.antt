-- The edges and weights of the chosen lines of a table.
use Rattle.std.specs.Prelude.{◌≡◌, ℕ, ◌<◌, Bool, true, false, List, [], is_some, Some, None, Option, slice_index_or}
use Rattle.std.specs.List.{ContainsAt as Has}
use Rattle.lines.specs.Bounding.{Weighs, edges_of}
use Rattle.lines.specs.declared.line.Line.{Line}
use Rattle.scales.specs.declared.sums.OrderedSums.{Ghosts}
use Rattle.bounds.specs.Bounds.{times_of}
use Rattle.bounds.specs.declared.edge.Edge.{Edge}
use Rattle.tables.specs.Tables.{Shows}

-- the number k is chosen
abbrev pub Chosen : List Bool → ℕ → Type 0
Chosen picked k = slice_index_or picked k false ≡ true

-- exactly the numbers that have a line are chosen
abbrev pub Picked : List (Option Line) → List Bool → Type 0
Picked records picked = (k : ℕ) → slice_index_or picked k false ≡ is_some (slice_index_or records k None)

abbrev pub edges_of_record : ℕ → ℕ → Option Line → List Edge
edges_of_record n k None = []
edges_of_record n k (Some l) = edges_of n k l

-- the edges of the line under k, if there is one
abbrev pub edges_under : ℕ → List (Option Line) → ℕ → List Edge
edges_under n records k = edges_of_record n k (slice_index_or records k None)

-- the edges are those of the chosen lines below a number, each with its weight at the place of the line's number
pub record Gathered (n : ℕ) (records : List (Option Line)) (picked : List Bool) (below : ℕ) (es : List Edge) : Type 0 where
  pub sound : (e : Edge) → Has es e → (k : ℕ) × (k < below) × Chosen picked k × Has (edges_under n records k) e
  pub complete : (k : ℕ) → k < below → Chosen picked k → (e : Edge) → Has (edges_under n records k) e → Has es e

module _ {S : Type 0} (m : Ghosts S) where
  -- the weight of each line stands at the place of its number
  abbrev pub Weighed : List (Option Line) → List S → Type 0
  Weighed records weights = (k : ℕ) (l : Line) → Shows records k l → Weighs m l (times_of m weights k)

  -- each place under which no line stands, and so each past the last record, means the time that it meant before
  abbrev pub Spared : List (Option Line) → List S → List S → Type 0
  Spared records before after = (k : ℕ) → slice_index_or records k None ≡ None → times_of m after k ≡ times_of m before k
