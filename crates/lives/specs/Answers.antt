-- What each call answers and leaves in its buffers, where the lines of a sheet stand.
use Rattle.std.specs.Prelude.{◌≡◌, ℕ, length, Some, vec_items, Option, Result, MatchResult}
use Rattle.engine.specs.Checks.{Granted, Refused, enter_checks, strike_checks}
use Rattle.engine.specs.Calls.{FollowsAs, Settles, Windows}
use Rattle.verdicts.specs.declared.following.Followed.{Followed}
use Rattle.engine.specs.declared.refusal.Refusal.{Refusal}
use Rattle.verdicts.specs.declared.settling.Settled.{Settled}
use Rattle.lines.specs.Quarrels.{Sheet}
use Rattle.lines.specs.declared.asked.Asked.{Asked}
use Rattle.scales.specs.declared.sums.OrderedSums.{Ghosts}
use Rattle.lines.specs.declared.call.Call.{Call}
use Rattle.lines.specs.declared.call.Call.TheVariants.{Enter, Strike, Settle, Window, Follows}
use Rattle.lives.specs.declared.steps.Reply.TheVariants as reply
use Rattle.lives.specs.declared.steps.Step.{Step}

-- granted exactly when no check applies, else refused with the first that does
abbrev pub EnterAnswers : ℕ → Sheet → ℕ → Asked → Result (Unit {0}) Refusal → Type 0
EnterAnswers n sheet k a r = MatchResult r (λ _. Granted (enter_checks n sheet k a)) (Refused (enter_checks n sheet k a))

abbrev pub StrikeAnswers : Sheet → ℕ → Result (Unit {0}) Refusal → Type 0
StrikeAnswers sheet k r = MatchResult r (λ _. Granted (strike_checks sheet k)) (Refused (strike_checks sheet k))

module _ {S : Type 0} where
  abbrev pub SameTimes : Step S → Step S → Type 0
  SameTimes s t = vec_items t.times ≡ vec_items s.times

  abbrev pub SameNames : Step S → Step S → Type 0
  SameNames s t = vec_items t.names ≡ vec_items s.names

module _ {S : Type 0} (m : Ghosts S) where
  -- the step s became t by its call
  abbrev pub Makes : Call → ℕ → Sheet → Step S → Step S → Type 0
  Makes (Enter k a) n sheet s t =
      (r : Result (Unit {0}) Refusal) × (t.reply ≡ Some (reply.Entered r)) × EnterAnswers n sheet k a r × SameTimes s t × SameNames s t
  Makes (Strike k) n sheet s t =
      (r : Result (Unit {0}) Refusal) × (t.reply ≡ Some (reply.Struck r)) × StrikeAnswers sheet k r × SameTimes s t × SameNames s t
  Makes Settle n sheet s t =
      (r : Result Settled Refusal) × (t.reply ≡ Some (reply.Settled r))
      × Settles m n sheet (length (vec_items s.work)) (vec_items s.times) (vec_items s.names) r (vec_items t.times) (vec_items t.names)
  Makes (Window x) n sheet s t =
      (r : Result (Option S × Option S) Refusal) × (t.reply ≡ Some (reply.Windowed r)) × Windows m n sheet x (length (vec_items s.work)) r × SameTimes s t × SameNames s t
  Makes (Follows a) n sheet s t =
      (r : Result Followed Refusal) × (t.reply ≡ Some (reply.Followed r))
      × FollowsAs m n sheet a (length (vec_items s.work)) (vec_items s.times) r (vec_items t.times) × SameNames s t

  abbrev pub Answers : ℕ → Sheet → Step S → Step S → Type 0
  Answers n sheet s t = (t.call ≡ s.call) × Makes s.call n sheet s t
