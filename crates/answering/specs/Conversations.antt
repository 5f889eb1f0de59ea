-- The life that the commands of a session make of an empty book, and its lines.
use Rattle.std.specs.Prelude.{◌≡◌, ℕ, ◌≤◌, List, [], ◌∷◌, ◌++◌, map, length, vec_items}
use Rattle.std.specs.List.{AllByRecursion}
use Rattle.lives.specs.Lives.{Lived}
use Rattle.lines.specs.declared.call.Call.{Call}
use Rattle.lives.specs.declared.steps.Step.{Step}
use Rattle.scales.specs.declared.sums.OrderedSums.{Ghosts}
use Rattle.answering.specs.Responses.{line_for}

-- no call of a book of n devices finds a buffer of the step too short
pub record Ample {S : Type 0} (n : ℕ) (s : Step S) : Type 0 where
  pub times : n ≤ length (vec_items s.times)
  pub names : 400 ≤ length (vec_items s.names)
  pub work : 1000 ≤ length (vec_items s.work)

module _ {S : Type 0} (m : Ghosts S) where
  -- the lines of calls, one for each step
  abbrev pub lines_of : ℕ → List Call → List (Step S) → List ℕ
  lines_of n [] ts = []
  lines_of n (c ∷ cs) [] = []
  lines_of n (c ∷ cs) (t ∷ ts) = line_for m n c t ++ lines_of n cs ts

  -- the calls are made in turn in an empty book of n devices, each with buffers that are long enough, and `out` is their lines
  -- in order
  pub record Answered (n : ℕ) (cs : List Call) (out : List ℕ) : Type 0 where
    pub asked : List (Step S)
    pub done : List (Step S)
    pub calls : map (λ s. s.call) asked ≡ cs
    pub ample : AllByRecursion (Ample n) asked
    pub lived : Lived m n asked done
    pub lines : out ≡ lines_of n cs done
