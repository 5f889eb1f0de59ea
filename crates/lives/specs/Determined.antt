-- The rules leave no choice but that of a clash set: two lives of the same calls with the same buffers answer alike.
use Rattle.std.specs.Prelude.{◌≡◌, ℕ, ◌<◌, List, length, Some, None, Ok, vec_items, Option, ◌≢◌, slice_index_or}
use Rattle.bounds.specs.Bounds.{times_of}
use Rattle.scales.specs.declared.sums.OrderedSums.{Ghosts}
use Rattle.verdicts.specs.declared.settling.Settled.TheVariants.{Clash}
use Rattle.lives.specs.Lives.{Lived}
use Rattle.lives.specs.declared.steps.Reply.{Reply}
use Rattle.lives.specs.declared.steps.Reply.TheVariants as reply
use Rattle.lives.specs.declared.steps.Step.{Step}

module _ {S : Type 0} (m : Ghosts S) where
  -- both ends are absent, or mean one time
  abbrev pub SameEnd : Option S → Option S → Type 0
  SameEnd None None = Unit {0}
  SameEnd None (Some w) = ⊥
  SameEnd (Some v) None = ⊥
  SameEnd (Some v) (Some w) = m.means v ≡ m.means w

  -- the same answer; which lines a clash names is free, and an end may be another value of one time
  pub data AlikeReply : Option (Reply S) → Option (Reply S) → Type 0 where
    the_same : {r : Option (Reply S)} → AlikeReply r r
    both_clash : {c d : ℕ} → AlikeReply (Some (reply.Settled (Ok (Clash c)))) (Some (reply.Settled (Ok (Clash d))))
    same_window : {v w : Option S × Option S} → SameEnd v.0 w.0 → SameEnd v.1 w.1 → AlikeReply (Some (reply.Windowed (Ok v))) (Some (reply.Windowed (Ok w)))

  pub record Alike (one two : Step S) : Type 0 where
    pub answer : AlikeReply one.reply two.reply
    pub times : (x : ℕ) → times_of m (vec_items one.times) x ≡ times_of m (vec_items two.times) x
    pub names : ((c : ℕ) → one.reply ≢ Some (reply.Settled (Ok (Clash c)))) → vec_items one.names ≡ vec_items two.names

  abbrev pub OneLife : Type 0
  OneLife =
      (n : ℕ) (asked one two : List (Step S)) → Lived m n asked one → Lived m n asked two → (i : ℕ) (d : Step S) → i < length asked → Alike (slice_index_or one i d) (slice_index_or two i d)
