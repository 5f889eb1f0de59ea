-- The bounds that a line reads as.
use Rattle.std.specs.Prelude.{◌≡◌, ℕ, ◌≤◌, true, false, List, [], ◌∷◌, ℤ, pos, Some, None}
use Rattle.lines.specs.declared.line.Line.{Line}
use Rattle.lines.specs.declared.line.Right.{Right}
use Rattle.lines.specs.declared.line.Right.TheVariants.{Device, Constant}
use Rattle.lines.specs.declared.operator.Operator.{Operator}
use Rattle.lines.specs.declared.operator.Operator.TheVariants as op
use Rattle.lines.specs.declared.reading.LineEdges.{LineEdges}
use Rattle.lines.specs.Keeping.{Keeps}
use Rattle.bounds.specs.Bounds.{Times, times_of, Meets, bounds, largest}
use Rattle.bounds.specs.declared.edge.Edge.{Edge}
use Rattle.scales.specs.declared.sums.OrderedSums.{Ghosts}

abbrev pub base_of : ℕ → Right → ℕ
base_of n (Device y) = y
base_of n (Constant c) = n

abbrev pub number_of : Right → ℤ
number_of (Device y) = pos 0
number_of (Constant c) = c

-- the time at the base is not before the time at x and the weight together, and the other way round
abbrev pub downwards : ℕ → ℕ → Line → Edge
downwards n w l = record { at = base_of n l.right; from = l.x; weight = w; opposed = false }

abbrev pub upwards : ℕ → ℕ → Line → Edge
upwards n w l = record { at = l.x; from = base_of n l.right; weight = w; opposed = false }

-- as downwards, with the opposite of the weight
abbrev pub back : ℕ → ℕ → Line → Edge
back n w l = record { at = base_of n l.right; from = l.x; weight = w; opposed = true }

abbrev pub edges_by : Operator → ℕ → ℕ → Line → List Edge
edges_by op.Before n w l = downwards n w l ∷ []
edges_by op.NotAfter n w l = downwards n w l ∷ []
edges_by op.With n w l = upwards n w l ∷ back n w l ∷ []
edges_by op.NotBefore n w l = upwards n w l ∷ []
edges_by op.After n w l = upwards n w l ∷ []

-- the edges of a line among n devices, with its weight at the place w
abbrev pub edges_of : ℕ → ℕ → Line → List Edge
edges_of n w l = edges_by l.op n w l

-- the edges that a reader of lines gives
abbrev pub listed : LineEdges → List Edge
listed r = elim r.second [ None ↦ r.first ∷ [] | Some e ↦ r.first ∷ e ∷ [] ]

module _ {S : Type 0} (m : Ghosts S) where
  abbrev pub weight_by : Operator → m.Time → m.Time
  weight_by op.Before c = m.plus m.step (m.opposed c)
  weight_by op.NotAfter c = m.opposed c
  weight_by op.With c = c
  weight_by op.NotBefore c = c
  weight_by op.After c = m.plus c m.step

  -- the weight of a line
  abbrev pub weight_of : Line → m.Time
  weight_of l = weight_by l.op (m.reading (number_of l.right))

  -- w serves as the weight of the line: it is not too large, and with it the edges of the line are met, the origin at zero, exactly
  -- by the times that keep the line
  pub record Weighs (l : Line) (w : m.Time) : Type 0 where
    pub is : w ≡ weight_of l
    pub small : m.size w ≤ largest
    pub exact : (n k : ℕ) (weights : List S) (t : Times m) → times_of m weights k ≡ w → t n ≡ m.zero →
        (Meets m (bounds m weights (edges_of n k l)) t → Keeps m t l) × (Keeps m t l → Meets m (bounds m weights (edges_of n k l)) t)
