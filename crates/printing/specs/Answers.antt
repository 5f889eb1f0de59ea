-- The line of a call that was made: its letter, and what it answered.
use Rattle.std.specs.Prelude.{ℕ, List, [], ◌∷◌, ◌++◌, take, Some, None, Ok, Err, vec_items, codes, Option, Result}
use Rattle.std.specs.List.{flat_map}
use Rattle.engine.specs.Refusals.{number_of}
use Rattle.engine.specs.declared.refusal.Refusal.{Refusal}
use Rattle.lines.specs.declared.call.Call.{Call}
use Rattle.lines.specs.declared.call.Call.TheVariants.{Enter, Strike, Settle, Window, Follows}
use Rattle.lives.specs.declared.steps.Reply.{Reply}
use Rattle.lives.specs.declared.steps.Reply.TheVariants.{Entered, Struck, Settled, Windowed, Followed}
use Rattle.lives.specs.declared.steps.Step.{Step}
use Rattle.scales.specs.declared.sums.OrderedSums.{Ghosts}
use Rattle.verdicts.specs.declared.following.Followed as followed
use Rattle.verdicts.specs.declared.following.Followed.TheVariants.{Yes, No}
use Rattle.verdicts.specs.declared.settling.Settled as settled
use Rattle.verdicts.specs.declared.settling.Settled.TheVariants.{Times, Clash}
use Rattle.printing.specs.Fields.{end_field, number_field, time_fields}

-- the line number or the device that a call names
abbrev pub subject : Call → List ℕ
subject (Enter k a) = number_field k
subject (Strike k) = number_field k
subject Settle = []
subject (Window x) = number_field x
subject (Follows a) = []

-- the word refused, and the refusal's number
abbrev pub refused_text : Refusal → List ℕ
refused_text e = codes " refused" ++ number_field (number_of e)

-- of enter and strike: the number, and the word ok
abbrev pub granted_text : Call → Result (Unit {0}) Refusal → List ℕ
granted_text call (Ok u) = subject call ++ codes " ok"
granted_text call (Err e) = refused_text e

module _ {S : Type 0} (m : Ghosts S) where
  -- the word times, and the times of n devices; or the word clash, and the numbers of the lines that it names
  abbrev pub settled_text : ℕ → List S → List ℕ → Result settled.Settled Refusal → List ℕ
  settled_text n times names (Ok Times) = codes " times" ++ time_fields m (take n times)
  settled_text n times names (Ok (Clash count)) = codes " clash" ++ flat_map number_field (take count names)
  settled_text n times names (Err e) = refused_text e

  -- the device, and both ends of its window
  abbrev pub window_text : Call → Result (Option S × Option S) Refusal → List ℕ
  window_text call (Ok ends) = subject call ++ (end_field m ends.0 ++ end_field m ends.1)
  window_text call (Err e) = refused_text e

  -- the word yes; or the word no, and the times that show it
  abbrev pub followed_text : ℕ → List S → Result followed.Followed Refusal → List ℕ
  followed_text n times (Ok Yes) = codes " yes"
  followed_text n times (Ok No) = codes " no" ++ time_fields m (take n times)
  followed_text n times (Err e) = refused_text e

  abbrev pub reply_text : ℕ → Step S → Option (Reply S) → List ℕ
  reply_text n t None = []
  reply_text n t (Some (Entered r)) = granted_text t.call r
  reply_text n t (Some (Struck r)) = granted_text t.call r
  reply_text n t (Some (Settled r)) = settled_text n (vec_items t.times) (vec_items t.names) r
  reply_text n t (Some (Windowed r)) = window_text t.call r
  reply_text n t (Some (Followed r)) = followed_text n (vec_items t.times) r

  -- the line of a call that was made in a book of n devices
  abbrev pub line_of : ℕ → ℕ → Step S → List ℕ
  line_of letter n t = letter ∷ (reply_text n t t.reply ++ 10 ∷ [])
