-- What a run of the readers gives is the session's reading.
use Rattle.std.proofs.Common.{ℕ, List, Option, subst}
use Rattle.lines.specs.declared.call.Call.{Call}
use Rattle.session.specs.declared.fault.Fault.{Fault}
use Rattle.session.specs.declared.reader.Commands.{Commands}
use Rattle.session.specs.Commands.{behind}
use Rattle.session.specs.Readings as reading
use Rattle.session.specs.Readings.{ReadsFrom}
use Rattle.session.specs.Runs as run
use Rattle.session.specs.Runs.{ReadersGive, Takes}
use Rattle.session.specs.Stages.{bytes_of, place_of}

takes_reads : {s : Commands} {cs : List Call} {f : Option Fault} → Takes s cs f → ReadsFrom (bytes_of s) (place_of s) cs f
takes_reads {s} (run.command {s' = s'} {c = c} {cs = cs} {f = f} g rest) =
    reading.command g.0
    (subst (λ (bs : List ℕ). ReadsFrom bs (behind (place_of s) c) cs f) g.1
    (subst (λ (p : ℕ). ReadsFrom (bytes_of s') p cs f) g.2 (takes_reads rest)))
takes_reads (run.over g) = reading.over g
takes_reads (run.stopped g) = reading.stopped g

pub readers_give : ReadersGive
readers_give bs cs f (run.opened {s = s} o t) =
    reading.opened o.opened
    (subst (λ (ds : List ℕ). ReadsFrom ds 6 cs f) o.bytes (subst (λ (p : ℕ). ReadsFrom (bytes_of s) p cs f) o.place (takes_reads t)))
readers_give bs cs f (run.unopened u) = reading.unopened u
