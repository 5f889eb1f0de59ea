-- What a call that was made leaves under each number of a book of n devices, and how long it leaves its buffers.
use Rattle.std.specs.Prelude.{◌≡◌, ℕ, ◌<◌, List, length, Some, vec_items, Option, Result, slice_index_or}
use Rattle.engine.specs.Records.{Entered, Struck}
use Rattle.engine.specs.declared.refusal.Refusal.{Refusal}
use Rattle.lines.specs.declared.line.Line.{Line}
use Rattle.lives.specs.Standing.{Made}
use Rattle.lines.specs.declared.call.Call.{Call}
use Rattle.lines.specs.declared.call.Call.TheVariants.{Enter, Strike, Settle, Window, Follows}
use Rattle.lives.specs.declared.steps.Reply.TheVariants as reply
use Rattle.lives.specs.declared.steps.Step.{Step}

module _ {S : Type 0} where
  abbrev pub ChangesBy : Call → ℕ → List (Option Line) → Made S → List (Option Line) → Type 0
  ChangesBy (Enter k a) n before c after = (r : Result (Unit {0}) Refusal) × (c.reply ≡ Some (reply.Entered r)) × Entered n before k a r after
  ChangesBy (Strike k) n before c after = (r : Result (Unit {0}) Refusal) × (c.reply ≡ Some (reply.Struck r)) × Struck before k r after
  ChangesBy Settle n before c after = after ≡ before
  ChangesBy (Window x) n before c after = after ≡ before
  ChangesBy (Follows a) n before c after = after ≡ before

  -- a granted enter or strike changes its one number; all other calls, and refused ones, change nothing
  abbrev pub Changes : ℕ → List (Option Line) → Made S → List (Option Line) → Type 0
  Changes n before c after = ChangesBy c.call n before c after

  -- each buffer is as long as it was
  pub record SameLengths (s t : Step S) : Type 0 where
    pub times : length (vec_items t.times) ≡ length (vec_items s.times)
    pub names : length (vec_items t.names) ≡ length (vec_items s.names)
    pub work : length (vec_items t.work) ≡ length (vec_items s.work)

  -- and so through a list of steps
  abbrev pub AllSameLengths : List (Step S) → List (Step S) → Type 0
  AllSameLengths asked done = (i : ℕ) (d : Step S) → i < length asked → SameLengths (slice_index_or asked i d) (slice_index_or done i d)
