-- What a printer asks of the answers that it prints: that what they name is there, and is not too large.
use Rattle.std.specs.Prelude.{ℕ, ◌≤◌, List, length, Some, None, Ok, Err, vec_items, Option, Result}
use Rattle.bounds.specs.Bounds.{times_of}
use Rattle.engine.specs.declared.refusal.Refusal.{Refusal}
use Rattle.lives.specs.declared.steps.Reply.{Reply}
use Rattle.lives.specs.declared.steps.Reply.TheVariants.{Entered, Struck, Settled, Windowed, Followed}
use Rattle.lives.specs.declared.steps.Step.{Step}
use Rattle.scales.specs.declared.sums.OrderedSums.{Ghosts}
use Rattle.verdicts.specs.Verdicts.{Printable}
use Rattle.verdicts.specs.Windows.{PrintableEnd}
use Rattle.verdicts.specs.declared.following.Followed as followed
use Rattle.verdicts.specs.declared.following.Followed.TheVariants.{Yes, No}
use Rattle.verdicts.specs.declared.settling.Settled as settled
use Rattle.verdicts.specs.declared.settling.Settled.TheVariants.{Times, Clash}

module _ {S : Type 0} (m : Ghosts S) where
  -- the times of n devices stand in the buffer
  pub record Timed (n : ℕ) (times : List S) : Type 0 where
    pub there : n ≤ length times
    pub printable : Printable m n (times_of m times)

  abbrev pub ShownSettled : ℕ → List S → List ℕ → Result settled.Settled Refusal → Type 0
  ShownSettled n times names (Ok Times) = Timed n times
  ShownSettled n times names (Ok (Clash count)) = (count ≤ length names) × (count ≤ 400)
  ShownSettled n times names (Err e) = Unit {0}

  abbrev pub ShownWindow : Result (Option S × Option S) Refusal → Type 0
  ShownWindow (Ok ends) = PrintableEnd m ends.0 × PrintableEnd m ends.1
  ShownWindow (Err e) = Unit {0}

  abbrev pub ShownFollowed : ℕ → List S → Result followed.Followed Refusal → Type 0
  ShownFollowed n times (Ok Yes) = Unit {0}
  ShownFollowed n times (Ok No) = Timed n times
  ShownFollowed n times (Err e) = Unit {0}

  abbrev pub ShownReply : ℕ → Step S → Option (Reply S) → Type 0
  ShownReply n t None = Unit {0}
  ShownReply n t (Some (Entered r)) = Unit {0}
  ShownReply n t (Some (Struck r)) = Unit {0}
  ShownReply n t (Some (Settled r)) = ShownSettled n (vec_items t.times) (vec_items t.names) r
  ShownReply n t (Some (Windowed r)) = ShownWindow r
  ShownReply n t (Some (Followed r)) = ShownFollowed n (vec_items t.times) r

  -- the answer of a step can be printed
  abbrev pub Shown : ℕ → Step S → Type 0
  Shown n t = ShownReply n t t.reply
