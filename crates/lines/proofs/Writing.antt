-- A line that is asked for is one line.
use Rattle.std.proofs.Common.{◌≡◌, ℕ, cond, eqb, sym, refl, ap, ◌∙◌}
use Rattle.lines.specs.Asking.{Writes}
use Rattle.lines.specs.Operators.{byte_of}
use Rattle.lines.specs.declared.asked.Asked.{Asked}
use Rattle.lines.specs.declared.line.Line.{Line}
use Rattle.lines.specs.declared.line.Right.{Right}
use Rattle.lines.specs.declared.operator.Operator.{Operator}
use Rattle.lines.specs.declared.operator.Operator.TheVariants.{Before, NotAfter, With, NotBefore, After}

named : ℕ → Operator
named b = cond (eqb b 0x3C) Before (cond (eqb b 0x6C) NotAfter (cond (eqb b 0x3D) With (cond (eqb b 0x67) NotBefore After)))

named_is : (op : Operator) → named (byte_of op) ≡ op
unfolding named
named_is Before = refl
named_is NotAfter = refl
named_is With = refl
named_is NotBefore = refl
named_is After = refl

same_operator : (p q : Operator) → byte_of p ≡ byte_of q → p ≡ q
same_operator p q e = sym (named_is p) ∙ ap named e ∙ named_is q

abbrev line_of : ℕ → Operator → Right → Line
line_of x op right = record { x = x; op = op; right = right }

pub writes_one : (a : Asked) (l m : Line) → Writes a l → Writes a m → l ≡ m
writes_one a l m v w =
    ap (λ x. line_of x l.op l.right) (v.left ∙ sym w.left)
    ∙ ap (λ op. line_of m.x op l.right) (same_operator l.op m.op (v.byte ∙ sym w.byte))
    ∙ ap (line_of m.x m.op) (v.right ∙ sym w.right)
