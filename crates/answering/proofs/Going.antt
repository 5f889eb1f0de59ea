-- A session that is answered up to a place.
use Rattle.std.proofs.Common.{◌≡◌, ℕ, List, [], ◌∷◌, ◌++◌, map, length, Some, None, Ok, Err, Option, sym, refl, ap, ◌∙◌, subst, append_assoc, arith}
use mathlib.Core.List.{map-append}
use Rattle.std.proofs.ByRecursion.{All-push}
use Rattle.std.proofs.lemmas.List.{append-nil, length-map}
use Rattle.std.specs.List.{AllByRecursion}
use Rattle.engine.specs.Books.{devices_of, sheet_of}
use Rattle.engine.specs.declared.book.Book.{Book}
use Rattle.lives.proofs.Longer.{lived_more}
use Rattle.lives.proofs.Turns.{lawful_stands}
use Rattle.lives.specs.Lives.{Lawful, Lived, ShowsAll}
use Rattle.lives.specs.Standing.{Stands, made}
use Rattle.lines.specs.declared.call.Call.{Call}
use Rattle.lives.specs.declared.steps.Step.{Step}
use Rattle.scales.proofs.Lawful.{Laws}
use Rattle.scales.specs.declared.sums.OrderedSums.{Ghosts}
use Rattle.session.proofs.Sofar as sofar
use Rattle.session.proofs.Sofar.{Sofar}
use Rattle.session.specs.Commands.{Closes, Spelt, Stops}
use Rattle.session.specs.Headings.{Behind, byte_at}
use Rattle.session.specs.Readings.{Reads}
use Rattle.session.specs.Stages.{Gives, bytes_of, place_of}
use Rattle.session.specs.declared.fault.Fault.{Fault}
use Rattle.session.specs.declared.reader.Commands.{Commands}
use Rattle.answering.specs.Conversations.{Ample, lines_of}
use Rattle.answering.specs.Responses.{Performed, asking, line_for}
use Rattle.answering.specs.Transcripts.{Conversed}

abbrev call_in : {S : Type 0} → Step S → Call
call_in s = s.call

module _ {S : Type 0} (m : Ghosts S) where
  -- the calls up to the reader were made in turn, with their lines behind what was there before
  pub record Going (bs : List ℕ) (book : Book S) (step : Step S) (reader : Commands) (before out : List ℕ) : Type 0 where
    pub bytes : bytes_of reader ≡ bs
    pub commands : List Call
    pub read : Sofar bs commands (place_of reader)
    pub asked : List (Step S)
    pub done : List (Step S)
    pub calls : map call_in asked ≡ commands
    pub ample : AllByRecursion (Ample (byte_at bs 5)) asked
    pub lived : Lived m (byte_at bs 5) asked done
    pub devices : devices_of book ≡ byte_at bs 5
    pub shows : ShowsAll (sheet_of book) (map made done)
    pub room : Ample (byte_at bs 5) step
    pub lines : out ≡ before ++ lines_of m (byte_at bs 5) commands done

  pub begun : (book : Book S) (step : Step S) (reader : Commands) (before : List ℕ) → let bs = bytes_of reader in Behind bs reader → devices_of book ≡ byte_at bs 5 → ShowsAll {S = S} (sheet_of book) [] → Ample (byte_at bs 5) step → Going bs book step reader before before
  begun book step reader before behind devices shows room = record {
    bytes = refl;
    commands = [];
    read = subst (Sofar (bytes_of reader) []) (sym behind.place) (sofar.begun behind.opened);
    asked = [];
    done = [];
    calls = refl;
    ample = tt;
    lived = record { all = refl; each = λ i d h. absurd (omega arith) };
    devices = devices;
    shows = shows;
    room = room;
    lines = sym (append-nil before);
  }

  lines_more : (n : ℕ) (cs : List Call) (ts : List (Step S)) (c : Call) (t : Step S) → length ts ≡ length cs → lines_of m n (cs ++ c ∷ []) (ts ++ t ∷ []) ≡ lines_of m n cs ts ++ line_for m n c t
  lines_more n [] [] c t e = append-nil (line_for m n c t)
  lines_more n [] (u ∷ ts) c t e = absurd (omega arith)
  lines_more n (d ∷ cs) [] c t e = absurd (omega arith)
  lines_more n (d ∷ cs) (u ∷ ts) c t e = ap (λ (x : List ℕ). line_for m n d u ++ x) (lines_more n cs ts c t (omega arith)) ∙ sym (append_assoc (line_for m n d u) (lines_of m n cs ts) (line_for m n c t))

  module _ (laws : Laws m) {bs : List ℕ} {book : Book S} {step : Step S} {reader : Commands} {before out : List ℕ} (going : Going bs book step reader before out) where
    abbrev n : ℕ
    n = byte_at bs 5

    as_many : length going.done ≡ length going.commands
    as_many =
        let a = length-map going.asked call_in in
        let c = going.lived.all in
        let d = ap length going.calls in
        omega arith

    -- one more command
    module _ (c : Call) (book' : Book S) (t : Step S) (performed : Performed m c book step book' t) where
      next_lawful : Lawful m n (Stands (map made going.done)) (asking c step) t
      next_lawful =
          lawful_stands m laws n (sheet_of book) (map made going.done) (asking c step) t going.shows
          (subst (λ (k : ℕ). Lawful m k (sheet_of book) (asking c step) t) going.devices performed.lawful)

      next_room : Ample n t
      next_room =
          let long = performed.lengths in
          record {
            times = omega (arith, long.times, going.room.times);
            names = omega (arith, long.names, going.room.names);
            work = omega (arith, long.work, going.room.work);
          }

      next_lines : (out' : List ℕ) → out' ≡ out ++ line_for m (devices_of book) c t → out' ≡ before ++ lines_of m n (going.commands ++ c ∷ []) (going.done ++ t ∷ [])
      next_lines out' e =
          let cs = going.commands in
          let ts = going.done in
          e ∙ ap (λ (k : ℕ). out ++ line_for m k c t) going.devices ∙ ap (λ (x : List ℕ). x ++ line_for m n c t) going.lines
          ∙ append_assoc before (lines_of m n cs ts) (line_for m n c t)
          ∙ ap (λ (x : List ℕ). before ++ x) (sym (lines_more n cs ts c t as_many))

      pub one_more : (rest : Commands) → Gives reader (Ok (Some (c, rest))) → (out' : List ℕ) → out' ≡ out ++ line_for m (devices_of book) c t → Going bs book' t rest before out'
      one_more rest gives out' e = record {
        bytes = gives.1 ∙ going.bytes;
        commands = going.commands ++ c ∷ [];
        read = subst (Sofar bs (going.commands ++ c ∷ [])) (sym gives.2) (sofar.one_more going.read (subst (λ (cs : List ℕ). Spelt cs (place_of reader) c) going.bytes gives.0));
        asked = going.asked ++ asking c step ∷ [];
        done = going.done ++ t ∷ [];
        calls = map-append call_in going.asked (asking c step ∷ []) ∙ ap (λ (x : List Call). x ++ c ∷ []) going.calls;
        ample = All-push (Ample n) going.asked (asking c step) going.ample (record { times = going.room.times; names = going.room.names; work = going.room.work });
        lived = lived_more m n going.asked going.done (asking c step) t going.lived next_lawful;
        devices = performed.devices ∙ going.devices;
        shows = subst (ShowsAll (sheet_of book')) (sym (map-append made going.done (t ∷ []))) (performed.stands (map made going.done) going.shows);
        room = next_room;
        lines = next_lines out' e;
      }

    over : {fault : Option Fault} → Reads bs going.commands fault → (more : List ℕ) × Conversed m bs fault more × (out ≡ before ++ more)
    over reads = (
      lines_of m n going.commands going.done,
      record {
        opened = going.read.heading;
        commands = going.commands;
        reads = reads;
        answers = record { asked = going.asked; done = going.done; calls = going.calls; ample = going.ample; lived = going.lived; lines = refl };
      },
      going.lines,
    )

    pub ended : Gives reader (Ok None) → (more : List ℕ) × Conversed m bs None more × (out ≡ before ++ more)
    ended z = over (sofar.ended going.read (subst (λ (cs : List ℕ). Closes cs (place_of reader)) going.bytes z))

    pub faulted : (f : Fault) → Gives reader (Err f) → (more : List ℕ) × Conversed m bs (Some f) more × (out ≡ before ++ more)
    faulted f s = over (sofar.faulted going.read (subst (λ (cs : List ℕ). Stops cs (place_of reader) f) going.bytes s))
