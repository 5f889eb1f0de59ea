-- The life of a book: what stands after each of its calls, and what each call answers.
use Rattle.std.specs.Prelude.{◌≡◌, ℕ, ◌<◌, List, [], ◌++◌, map, length, take, Some, Ok, vec_items, slice_index_or}
use Rattle.verdicts.specs.declared.following.Followed.TheVariants.{Yes, No}
use Rattle.verdicts.specs.declared.settling.Settled.TheVariants.{Times, Clash}
use Rattle.lines.specs.Asking.{Writes}
use Rattle.lines.specs.Keeping.{Keeps, KeepsAll}
use Rattle.lines.specs.Proper.{Proper}
use Rattle.lines.specs.Quarrels.{Sheet, Quarrel, standing}
use Rattle.lines.specs.Timetables as timetables
use Rattle.lines.specs.Timetables.{Keepable, Clashes}
use Rattle.lines.specs.declared.asked.Asked.{Asked}
use Rattle.lines.specs.declared.line.Line.{Line}
use Rattle.scales.specs.declared.sums.OrderedSums.{Ghosts}
use Rattle.bounds.specs.Bounds.{times_of}
use Rattle.lives.specs.Answers.{Answers}
use Rattle.lives.specs.Standing.{Made, Stands, made}
use Rattle.lines.specs.declared.call.Call.TheVariants.{Follows}
use Rattle.lives.specs.declared.steps.Reply.TheVariants as reply
use Rattle.lives.specs.declared.steps.Step.{Step}

-- the sheet shows exactly what stands after the calls
abbrev pub ShowsAll : {S : Type 0} → Sheet → List (Made S) → Type 0
ShowsAll sheet past = (k : ℕ) (l : Line) → (sheet k l → Stands past k l) × (Stands past k l → sheet k l)

module _ {S : Type 0} (m : Ghosts S) where
  -- a settle that was not refused reports a clash exactly when no timetable keeps all lines of the sheet
  abbrev pub TellsClash : Sheet → Step S → Type 0
  TellsClash sheet t =
      ((c : ℕ) → t.reply ≡ Some (reply.Settled (Ok (Clash c))) → Clashes m (standing sheet))
      × (t.reply ≡ Some (reply.Settled (Ok Times)) → Keepable m (standing sheet))

  -- the lines that a clash names all stand, no timetable keeps them all, and without any single one some timetable keeps the
  -- others
  abbrev pub NamesQuarrel : Sheet → Step S → Type 0
  NamesQuarrel sheet t = (c : ℕ) → t.reply ≡ Some (reply.Settled (Ok (Clash c))) → Quarrel m sheet (take c (vec_items t.names))

  -- a follows that was not refused says yes exactly when every timetable that keeps the lines of the sheet keeps the line that is
  -- asked for, and a no shows one that keeps them and does not keep that line
  abbrev pub TellsFollows : Sheet → Step S → Type 0
  TellsFollows sheet t =
      (a : Asked) (l : Line) → t.call ≡ Follows a → Writes a l →
      (t.reply ≡ Some (reply.Followed (Ok Yes)) → timetables.Follows m (standing sheet) l)
      × (t.reply ≡ Some (reply.Followed (Ok No)) →
      KeepsAll m (times_of m (vec_items t.times)) (standing sheet) × (Keeps m (times_of m (vec_items t.times)) l → ⊥))

  -- what holds of one call, made where the lines of the sheet stand
  pub record Lawful (n : ℕ) (sheet : Sheet) (s t : Step S) : Type 0 where
    pub proper : (k : ℕ) (l : Line) → sheet k l → Proper n l
    pub answers : Answers m n sheet s t
    pub clash : TellsClash sheet t
    pub quarrel : NamesQuarrel sheet t
    pub follows : TellsFollows sheet t

  -- every call of the list `asked`, made in turn after the calls `past`, is lawful for what stands after the calls made before it
  pub record LivedOn (n : ℕ) (past : List (Made S)) (asked done : List (Step S)) : Type 0 where
    pub all : length done ≡ length asked
    pub each : (i : ℕ) (d : Step S) → i < length asked → Lawful n (Stands (past ++ map made (take i done))) (slice_index_or asked i d) (slice_index_or done i d)

  -- the same from the start
  abbrev pub Lived : ℕ → List (Step S) → List (Step S) → Type 0
  Lived n asked done = LivedOn n [] asked done
