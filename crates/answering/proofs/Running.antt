-- A session that ran to its end or to a fault.
use Rattle.std.proofs.Common.{◌≡◌, ℕ, List, Some, None, Ok, Err, Option, Result, sym, ap, ◌∙◌}
use Rattle.session.specs.Headings.{Behind, byte_at}
use Rattle.session.specs.Stages.{heading_of}
use Rattle.session.specs.declared.fault.Fault.{Fault}
use Rattle.session.specs.declared.heading.Heading.{Heading}
use Rattle.session.specs.declared.reader.Commands.{Commands}
use Rattle.answering.specs.Transcripts.{Ran}
use Rattle.answering.specs.declared.stop.Stop.{Stop}
use Rattle.answering.specs.declared.stop.Stop.TheVariants.{Faulted, Exhausted}

pub ran_weaker : (r : Result (Unit {0}) Stop) {P Q : Option Fault → Type 0} → ((f : Option Fault) → P f → Q f) → Ran r P → Ran r Q
ran_weaker (Ok u) w h = w None h
ran_weaker (Err (Faulted f)) w h = w (Some f) h
ran_weaker (Err (Exhausted e)) w h = tt

-- the code that the heading of an opened session gave is its byte at 4
pub code_read : {cs bs : List ℕ} {s : Commands} {h : Heading} {code : ℕ} → Behind cs s → cs ≡ bs → h ≡ heading_of s → h.code ≡ code → byte_at bs 4 ≡ code
code_read b same read is = ap (λ (xs : List ℕ). byte_at xs 4) (sym same) ∙ sym b.code ∙ ap (λ (h : Heading). h.code) (sym read) ∙ is
