-- What settle, window and follows answer, and what they leave in their buffers, in a book of n devices in which the lines of a sheet
-- stand, with a work buffer of a length.
use Rattle.std.specs.Prelude.{◌≡◌, ℕ, List, length, Option, Result, MatchResult}
use Rattle.lines.specs.Asking.{Writes}
use Rattle.lines.specs.Quarrels.{Sheet, standing}
use Rattle.lines.specs.Timetables.{Clashes}
use Rattle.lines.specs.declared.asked.Asked.{Asked}
use Rattle.lines.specs.declared.line.Line.{Line}
use Rattle.scales.specs.declared.sums.OrderedSums.{Ghosts}
use Rattle.verdicts.specs.Following.{FollowedAs}
use Rattle.verdicts.specs.Settling.{SettledAs}
use Rattle.verdicts.specs.Windows.{Window}
use Rattle.verdicts.specs.declared.following.Followed.{Followed}
use Rattle.verdicts.specs.declared.settling.Settled.{Settled}
use Rattle.engine.specs.Checks.{Granted, Refused, settle_checks, window_checks, follows_checks}
use Rattle.engine.specs.declared.refusal.Refusal.{Refusal}

module _ {S : Type 0} (m : Ghosts S) where
  abbrev pub Settles : ℕ → Sheet → ℕ → List S → List ℕ → Result Settled Refusal → List S → List ℕ → Type 0
  Settles n sheet work times names r times' names' =
      MatchResult r
      (λ a. Granted (settle_checks n (length times) (length names) work) × SettledAs m n sheet times names a times' names')
      (λ e. Refused (settle_checks n (length times) (length names) work) e × (times' ≡ times) × (names' ≡ names))

  abbrev pub Windows : ℕ → Sheet → ℕ → ℕ → Result (Option S × Option S) Refusal → Type 0
  Windows n sheet x work r =
      MatchResult r
      (λ ends. Granted (window_checks n x work (Clashes m (standing sheet))) × Window m (standing sheet) x ends)
      (Refused (window_checks n x work (Clashes m (standing sheet))))

  abbrev pub FollowsAs : ℕ → Sheet → Asked → ℕ → List S → Result Followed Refusal → List S → Type 0
  FollowsAs n sheet a work times r times' =
      MatchResult r
      (λ f. Granted (follows_checks n a (length times) work) × ((l : Line) × Writes a l × FollowedAs m n sheet l times f times'))
      (λ e. Refused (follows_checks n a (length times) work) e × (times' ≡ times))
