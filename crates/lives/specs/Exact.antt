-- Answers that are not refused are exact: what is so is told.
use Rattle.std.specs.Prelude.{◌≡◌, ℕ, ◌<◌, ◌≤◌, List, map, length, take, Some, Ok, vec_items, slice_index_or}
use Rattle.verdicts.specs.declared.following.Followed.{Followed}
use Rattle.verdicts.specs.declared.following.Followed.TheVariants.{Yes}
use Rattle.verdicts.specs.declared.settling.Settled.{Settled}
use Rattle.verdicts.specs.declared.settling.Settled.TheVariants.{Clash}
use Rattle.lines.specs.Asking.{Writes}
use Rattle.lines.specs.Quarrels.{Sheet, standing}
use Rattle.lines.specs.Timetables as timetables
use Rattle.lines.specs.Timetables.{Clashes}
use Rattle.lines.specs.declared.asked.Asked.{Asked}
use Rattle.lines.specs.declared.line.Line.{Line}
use Rattle.scales.specs.declared.sums.OrderedSums.{Ghosts}
use Rattle.lives.specs.Lives.{Lived}
use Rattle.lives.specs.Standing.{Stands, made}
use Rattle.lines.specs.declared.call.Call.TheVariants.{Follows}
use Rattle.lives.specs.declared.steps.Reply.TheVariants as reply
use Rattle.lives.specs.declared.steps.Step.{Step}

module _ {S : Type 0} (m : Ghosts S) where
  pub record Exact (sheet : Sheet) (s t : Step S) : Type 0 where
    -- where the lines of the sheet clash, a settle reports a clash
    pub clash : (a : Settled) → t.reply ≡ Some (reply.Settled (Ok a)) → Clashes m (standing sheet) → (c : ℕ) × (a ≡ Clash c)
    -- where the asked line follows from them, a follows says yes
    pub follows : (a : Asked) (l : Line) → t.call ≡ Follows a → Writes a l → (f : Followed) → t.reply ≡ Some (reply.Followed (Ok f)) → timetables.Follows m (standing sheet) l → f ≡ Yes
    -- and behind the lines that a clash names, the names are as they were
    pub behind : (c : ℕ) → t.reply ≡ Some (reply.Settled (Ok (Clash c))) → (k e : ℕ) → c ≤ k → slice_index_or (vec_items t.names) k e ≡ slice_index_or (vec_items s.names) k e

  -- all calls of a life are so, for what stands after the calls made before
  abbrev pub ExactAnswers : Type 0
  ExactAnswers =
      (n : ℕ) (asked done : List (Step S)) → Lived m n asked done → (i : ℕ) (d : Step S) → i < length asked → Exact (Stands (map made (take i done))) (slice_index_or asked i d) (slice_index_or done i d)
