-- Operands that are not all there.
use Rattle.std.proofs.Common.{◌≡◌, ℕ, ◌+◌, ◌<◌, ◌≤◌, length, Ok, Option, Result, refl, ap, sym, ◌∙◌, inr, arith}
use Rattle.std.proofs.lemmas.Result.{err_from_is_err_and}
use Rattle.std.specs.Result.{IsErrAnd}
use Rattle.lines.specs.declared.call.Call.{Call}
use Rattle.session.specs.declared.cursor.Cursor.{Cursor}
use Rattle.session.specs.declared.fault.Fault.{Fault}
use Rattle.session.specs.declared.fault.Layer.TheVariants as layer
use Rattle.session.specs.declared.reader.Commands.{Commands}
use Rattle.session.specs.Commands.{letter_of, width_of}
use Rattle.session.specs.Headings.{byte_at}
use Rattle.session.specs.Operands.{Taken, cut_off}
use Rattle.session.specs.Stages.{Gives}

-- the reader s took the letter of the command c, and stands at o
module _ (s : Commands) (c : Call) (letter : ℕ) (o : Cursor) (taken : Taken layer.Command 1 byte_at s.cursor (Ok letter) o) (is : letter ≡ letter_of c) where
  -- the bytes end in the operand that begins `skipped` bytes later, at p
  pub cut_later : (skipped width : ℕ) (p : Cursor) {f : Fault} (r : Result (Option (Call × Commands)) Fault) → p.bytes.now ≡ o.bytes.now → p.place ≡ o.place + skipped
      → skipped + width ≤ width_of c → IsErrAnd r (λ e. e ≡ f) → (length p.bytes.now < p.place + width) × (f ≡ cut_off p.bytes.now) → Gives s r
  cut_later skipped width p r same place within failed short =
      let e = err_from_is_err_and r failed in
      let bytes = same ∙ taken.2 in
      rw e.1
      (inr (inr (record {
        inside = omega (arith, taken.0);
        command = c;
        letter = sym taken.1 ∙ is;
        short = omega (arith, ap length bytes, short.0, place, taken.3, within);
        fault = e.2 ∙ short.1 ∙ ap cut_off bytes;
      })))

  -- in the operand that begins at once
  pub cut : (width : ℕ) {f : Fault} (r : Result (Option (Call × Commands)) Fault) → width ≤ width_of c
      → IsErrAnd r (λ e. e ≡ f) → (length o.bytes.now < o.place + width) × (f ≡ cut_off o.bytes.now) → Gives s r
  cut width r within failed short = cut_later 0 width o r refl (omega arith) (omega arith) failed short
