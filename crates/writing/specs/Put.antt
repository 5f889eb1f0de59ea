-- What a writer into a lent buffer leaves.
use Rattle.std.specs.Prelude.{◌≡◌, ℕ, ◌+◌, List, ◌++◌, length, take, drop}

-- `bytes` stand from `at` on, up to `end`, and nothing else of the buffer changed
pub record Put (at : ℕ) (bytes before : List ℕ) (end : ℕ) (after : List ℕ) : Type 0 where
  pub place : end ≡ at + length bytes
  pub front : take end after ≡ take at before ++ bytes
  pub rest : drop end after ≡ drop end before
