-- Chosen numbers as a rising list.
use Rattle.std.specs.Prelude.{ℕ, ◌<◌, Bool, List}
use Rattle.std.specs.List.{ContainsAt as Has}
use Rattle.lines.specs.Quarrels.{Rising}
use Rattle.tables.specs.Gathering.{Chosen}

-- exactly the chosen numbers below a bound, rising
pub record Named (picked : List Bool) (below : ℕ) (ks : List ℕ) : Type 0 where
  pub rising : Rising ks
  pub sound : (k : ℕ) → Has ks k → (k < below) × Chosen picked k
  pub complete : (k : ℕ) → k < below → Chosen picked k → Has ks k
