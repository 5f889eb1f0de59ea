-- A call that is made, and its line.
use Rattle.std.specs.Prelude.{◌≡◌, ℕ, ◌<◌, ◌≤◌, List, [], ◌∷◌, ◌++◌, length, drop, Result, MatchResult}
use Rattle.engine.specs.Books.{devices_of, sheet_of}
use Rattle.engine.specs.declared.book.Book.{Book}
use Rattle.engine.specs.declared.refusal.Refusal.{Refusal}
use Rattle.engine.specs.declared.refusal.Refusal.TheVariants.{Buffer}
use Rattle.lives.specs.Changes.{SameLengths}
use Rattle.lives.specs.Lives.{Lawful, ShowsAll}
use Rattle.lives.specs.Standing.{Made, made}
use Rattle.lines.specs.declared.call.Call.{Call}
use Rattle.lives.specs.declared.steps.Step.{Step}
use Rattle.printing.specs.Answers.{line_of}
use Rattle.scales.specs.declared.sums.OrderedSums.{Ghosts}
use Rattle.session.specs.Commands.{letter_of}

-- a line of k bytes stands at the front of a buffer, and the rest is as it was
pub record Lined (line before : List ℕ) (k : ℕ) (after : List ℕ) : Type 0 where
  pub room : 8192 ≤ length before
  pub long : k ≡ length line
  pub front : after ≡ line ++ drop (length line) before

-- the buffer is too short for a line, and is as it was
pub record Unlined (before : List ℕ) (e : Refusal) (after : List ℕ) : Type 0 where
  pub short : length before < 8192
  pub refusal : e ≡ Buffer
  pub same : after ≡ before

-- the step s, to make the call c next
abbrev pub asking : {S : Type 0} → Call → Step S → Step S
asking c s = record { call = c; times = s.times; names = s.names; work = s.work; reply = s.reply }

module _ {S : Type 0} (m : Ghosts S) where
  -- the call c is made in the book b, which becomes b', and the step s becomes t
  pub record Performed (c : Call) (b : Book S) (s : Step S) (b' : Book S) (t : Step S) : Type 0 where
    pub devices : devices_of b' ≡ devices_of b
    pub lawful : Lawful m (devices_of b) (sheet_of b) (asking c s) t
    pub lengths : SameLengths (asking c s) t
    pub stands : (past : List (Made S)) → ShowsAll (sheet_of b) past → ShowsAll (sheet_of b') (past ++ made t ∷ [])

  -- the line of the call c, as the step t answers it
  abbrev pub line_for : ℕ → Call → Step S → List ℕ
  line_for n c t = line_of m (letter_of c) n t

  -- performed, with the line of the answer; or refused, with nothing changed
  abbrev pub Responds : Call → Book S → Step S → List ℕ → Result ℕ Refusal → Book S → Step S → List ℕ → Type 0
  Responds c b s line r b' t line' =
      MatchResult r
      (λ k. Performed c b s b' t × Lined (line_for (devices_of b) c t) line k line')
      (λ e. Unlined line e line' × (b' ≡ b) × (t ≡ s))
