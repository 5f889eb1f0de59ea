-- Of two times exactly one holds: an operator's comparison, or that by one of its opposites.
use Rattle.std.specs.Prelude.{◌≡◌, ◌⊎◌, Some}
use Rattle.lines.specs.Keeping.{Compares}
use Rattle.lines.specs.Operators.{opposites}
use Rattle.lines.specs.declared.operator.Operator.{Operator}
use Rattle.scales.specs.declared.sums.OrderedSums.{Ghosts}

-- p is the first opposite of o, or the second
abbrev pub OppositeOf : Operator → Operator → Type 0
OppositeOf o p = (p ≡ (opposites o).0) ⊎ ((opposites o).1 ≡ Some p)

module _ {S : Type 0} (m : Ghosts S) where
  pub record Opposed : Type 0 where
    pub some_holds : (o : Operator) (a b : m.Time) → Compares m o a b ⊎ ((p : Operator) × OppositeOf o p × Compares m p a b)
    pub not_both : (o p : Operator) (a b : m.Time) → OppositeOf o p → Compares m p a b → Compares m o a b → ⊥
