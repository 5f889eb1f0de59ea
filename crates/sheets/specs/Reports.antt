-- What is shown of a session that is run from its text.
use Rattle.std.specs.Prelude.{◌≡◌, ℕ, List, ◌++◌, codes, ◌≢◌}
use Rattle.answering.specs.Transcripts.{Transcript}
use Rattle.sheets.specs.Hex.{Decoded}

-- the printed lines are those that are due, or they are not, and these are shown
pub data Judged (printed due : List ℕ) : List ℕ → Type 0 where
  as_due : printed ≡ due → Judged printed due (codes "as due\n")
  not_due : (printed ≢ due) → Judged printed due (codes "due:\n" ++ due)

-- a line with the name, the lines that the session prints, and the judgement of them
pub record Reported (name text due out : List ℕ) : Type 0 where
  pub session : List ℕ
  pub printed : List ℕ
  pub judgement : List ℕ
  pub decoded : Decoded text session
  pub prints : Transcript session printed
  pub judged : Judged printed due judgement
  pub lines : out ≡ codes "sheet " ++ (name ++ (codes "\n" ++ (printed ++ judgement)))
