-- What the bytes from a place on say: the operands of commands.
use Rattle.std.specs.Prelude.{◌≡◌, ℕ, ◌+◌, ◌*◌, ◌<◌, ◌≤◌, List, length, ℤ, Ok, Err, Result}
use Rattle.std.specs.Int.{w32}
use Rattle.std.proofs.Common.{to_z}
use Rattle.lines.specs.declared.asked.Asked.{Asked}
use Rattle.lines.specs.declared.line.Right.TheVariants.{Device, Constant}
use Rattle.session.specs.Headings.{byte_at}
use Rattle.session.specs.declared.cursor.Cursor.{Cursor}
use Rattle.session.specs.declared.fault.Cause.TheVariants.{EndsEarly}
use Rattle.session.specs.declared.fault.Fault.{Fault}
use Rattle.session.specs.declared.fault.Layer.{Layer}
use Rattle.session.specs.declared.fault.Layer.TheVariants as layer

-- two bytes, the high one first
abbrev pub number_at : List ℕ → ℕ → ℕ
number_at bs p = byte_at bs p * 256 + byte_at bs (p + 1)

-- four bytes, the high one first, in two's complement
abbrev pub constant_at : List ℕ → ℕ → ℤ
constant_at bs p = to_z w32 (byte_at bs p * 16777216 + byte_at bs (p + 1) * 65536 + byte_at bs (p + 2) * 256 + byte_at bs (p + 3))

-- the operator, X and Y
abbrev pub pair_at : List ℕ → ℕ → Asked
pair_at bs p = record { x = byte_at bs (p + 1); op = byte_at bs p; right = Device (byte_at bs (p + 2)) }

-- the operator, X and the constant
abbrev pub clock_at : List ℕ → ℕ → Asked
clock_at bs p = record { x = byte_at bs (p + 1); op = byte_at bs p; right = Constant (constant_at bs (p + 2)) }

-- the fault of bytes that end where this reader is due one
abbrev pub ended_early : Layer → List ℕ → Fault
ended_early l bs = record { cause = EndsEarly; place = length bs; layer = l }

-- the fault of bytes that end where an operand is due
abbrev pub cut_off : List ℕ → Fault
cut_off bs = ended_early layer.Operand bs

-- a value of `width` bytes is read where the cursor stands, or the bytes end before it does
abbrev pub Taken : {V : Type 0} → Layer → ℕ → (List ℕ → ℕ → V) → Cursor → Result V Fault → Cursor → Type 0
Taken l width value o (Ok v) o' =
    (o.place + width ≤ length o.bytes.now) × (v ≡ value o.bytes.now o.place) × (o'.bytes.now ≡ o.bytes.now) × (o'.place ≡ o.place + width)
Taken l width value o (Err f) o' = (length o.bytes.now < o.place + width) × (f ≡ ended_early l o.bytes.now)

-- an operand is read
abbrev pub Operand : {V : Type 0} → ℕ → (List ℕ → ℕ → V) → Cursor → Result V Fault → Cursor → Type 0
Operand width value o r o' = Taken layer.Operand width value o r o'
