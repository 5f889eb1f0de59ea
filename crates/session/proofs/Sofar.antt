-- A session that is read up to a place.
use Rattle.std.proofs.Common.{ℕ, List, [], ◌∷◌, ◌++◌, Some, None, Option, sym, subst, append_assoc}
use Rattle.std.proofs.lemmas.List.{append-nil}
use Rattle.lines.specs.declared.call.Call.{Call}
use Rattle.session.specs.declared.fault.Fault.{Fault}
use Rattle.session.specs.Commands.{Closes, Spelt, Stops, behind}
use Rattle.session.specs.Headings.{Opened}
use Rattle.session.specs.Readings.{Reads, ReadsFrom, command, opened, over, stopped}

-- whatever is read from p on, the whole session reads as the commands so far, and then that
pub record Sofar (bs : List ℕ) (cs : List Call) (p : ℕ) : Type 0 where
  pub heading : Opened bs
  pub rest : (ds : List Call) (f : Option Fault) → ReadsFrom bs p ds f → ReadsFrom bs 6 (cs ++ ds) f

module _ {bs : List ℕ} where
  pub begun : Opened bs → Sofar bs [] 6
  begun o = record { heading = o; rest = λ ds f r. r }

  module _ {cs : List Call} {p : ℕ} (s : Sofar bs cs p) where
    pub one_more : {c : Call} → Spelt bs p c → Sofar bs (cs ++ c ∷ []) (behind p c)
    one_more {c} t =
        record {
          heading = s.heading;
          rest = λ ds f r. subst (λ (l : List Call). ReadsFrom bs 6 l f) (sym (append_assoc cs (c ∷ []) ds)) (s.rest (c ∷ ds) f (command t r));
        }

    done : {f : Option Fault} → ReadsFrom bs p [] f → Reads bs cs f
    done {f} r = opened s.heading (subst (λ (l : List Call). ReadsFrom bs 6 l f) (append-nil cs) (s.rest [] f r))

    pub ended : Closes bs p → Reads bs cs None
    ended z = done (over z)

    pub faulted : {f : Fault} → Stops bs p f → Reads bs cs (Some f)
    faulted t = done (stopped t)
