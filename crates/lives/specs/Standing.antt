-- Which lines stand after a list of calls.
use Rattle.std.specs.Prelude.{◌≡◌, ℕ, List, ◌∷◌, ◌++◌, Some, Ok, Option}
use Rattle.std.specs.List.{AllByRecursion}
use Rattle.lines.specs.Asking.{Writes}
use Rattle.lines.specs.declared.asked.Asked.{Asked}
use Rattle.lines.specs.declared.line.Line.{Line}
use Rattle.lines.specs.declared.call.Call.{Call}
use Rattle.lines.specs.declared.call.Call.TheVariants.{Enter, Strike}
use Rattle.lives.specs.declared.steps.Reply.{Reply}
use Rattle.lives.specs.declared.steps.Reply.TheVariants as reply
use Rattle.lives.specs.declared.steps.Step.{Step}

-- a call that was made, and what it answered
pub record Made (S : Type 0) : Type 0 where
  pub call : Call
  pub reply : Option (Reply S)

module _ {S : Type 0} where
  abbrev pub made : Step S → Made S
  made s = record { call = s.call; reply = s.reply }

  -- a granted enter of the line l under k
  abbrev pub Enters : Made S → ℕ → Line → Type 0
  Enters c k l = (a : Asked) × (c.call ≡ Enter k a) × (c.reply ≡ Some (reply.Entered (Ok tt))) × Writes a l

  -- a granted strike of k
  abbrev pub Strikes : Made S → ℕ → Type 0
  Strikes c k = (c.call ≡ Strike k) × (c.reply ≡ Some (reply.Struck (Ok tt)))

  -- after the calls `past` the line l stands under k: a granted enter put it there, and no granted strike of k came later
  pub record Stands (past : List (Made S)) (k : ℕ) (l : Line) : Type 0 where
    pub earlier : List (Made S)
    pub entry : Made S
    pub later : List (Made S)
    pub split : past ≡ earlier ++ entry ∷ later
    pub enters : Enters entry k l
    pub kept : AllByRecursion (λ c. Strikes c k → ⊥) later
