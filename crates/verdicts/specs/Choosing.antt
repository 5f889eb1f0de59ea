-- Taking numbers out of a choice of lines that clash, until none is too many.
use Rattle.std.specs.Prelude.{◌≡◌, ℕ, ◌<◌, Bool, false, ◌⊎◌, List, None, Option, slice_set}
use Rattle.lines.specs.Timetables.{Keepable, Clashes}
use Rattle.lines.specs.declared.line.Line.{Line}
use Rattle.scales.specs.declared.sums.OrderedSums.{Ghosts}
use Rattle.tables.specs.Gathering.{Chosen}
use Rattle.verdicts.specs.Verdicts.{chosen_lines}

module _ {S : Type 0} (m : Ghosts S) where
  -- without the number k some timetable keeps the chosen lines
  abbrev pub Needed : List (Option Line) → List Bool → ℕ → Type 0
  Needed records picked k = Keepable m (chosen_lines records (slice_set picked k false) None)

  -- the number k was taken out, or is needed
  abbrev pub Dropped : List (Option Line) → ℕ → List Bool → List Bool → Type 0
  Dropped records k before after =
      ((after ≡ slice_set before k false) × Clashes m (chosen_lines records after None))
      ⊎ ((after ≡ before) × Needed records after k)

  -- of the lines chosen before, those chosen after still clash, and the numbers below a bound are needed
  pub record Reduced (records : List (Option Line)) (before after : List Bool) (below : ℕ) : Type 0 where
    pub within : (k : ℕ) → Chosen after k → Chosen before k
    pub clash : Clashes m (chosen_lines records after None)
    pub needed : (k : ℕ) → k < below → Chosen after k → Needed records after k
