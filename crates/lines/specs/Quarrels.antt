-- A set of numbered lines that quarrel, with none too many.
use Rattle.std.specs.Prelude.{ℕ, ◌<◌, List, length, ◌≢◌, slice_index}
use Rattle.std.specs.List.{ContainsAt as Has}
use Rattle.lines.specs.declared.line.Line.{Line}
use Rattle.lines.specs.Timetables.{Keepable, Clashes}
use Rattle.scales.specs.declared.sums.OrderedSums.{Ghosts}

-- which line stands under which number
abbrev pub Sheet : Type 1
Sheet = ℕ → Line → Type 0

-- the lines of a sheet
abbrev pub standing : Sheet → Line → Type 0
standing sheet l = (k : ℕ) × sheet k l

-- the lines under some numbers of a sheet
abbrev pub under : Sheet → (ℕ → Type 0) → Line → Type 0
under sheet numbers l = (k : ℕ) × numbers k × sheet k l

-- each number is above the one before
abbrev pub Rising : List ℕ → Type 0
Rising ks = (i j : ℕ) → i < j → j < length ks → slice_index ks i < slice_index ks j

module _ {S : Type 0} (m : Ghosts S) where
  -- rising numbers of lines that stand; no timetable keeps them all, and without any single one some timetable keeps the others
  pub record Quarrel (sheet : Sheet) (ks : List ℕ) : Type 0 where
    pub rising : Rising ks
    pub stand : (k : ℕ) → Has ks k → (l : Line) × sheet k l
    pub clash : Clashes m (under sheet (Has ks))
    pub minimal : (k : ℕ) → Has ks k → Keepable m (under sheet (λ j. Has ks j × (j ≢ k)))
