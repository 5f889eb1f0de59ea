-- What a call with lent buffers says of the vectors that lent them.
use Rattle.std.proofs.Common.{◌≡◌, List, length, vec_items, Vec, sym, ◌∙◌, subst}
use Rattle.std.specs.Vec.{with_items}

-- a vector that was lent is as long as it was
pub as_long : {X Z : Type 0} (v : Vec X Z) (ws : List X) → length (vec_items (with_items v ws)) ≡ length (vec_items v)
as_long v ws = sym (with_items v ws).ok.0 ∙ v.ok.0

-- a relation of five values, at five equal ones
pub carried : {A B C D E : Type 0} (P : A → B → C → D → E → Type 0) {a a' : A} {b b' : B} {c c' : C} {d d' : D} {e e' : E}
    → a ≡ a' → b ≡ b' → c ≡ c' → d ≡ d' → e ≡ e' → P a b c d e → P a' b' c' d' e'
carried P {a} {a'} {b} {b'} {c} {c'} {d} {d'} {e} {e'} p q r s t h =
    subst (λ v. P v b' c' d' e') p (subst (λ v. P a v c' d' e') q (subst (λ v. P a b v d' e') r (subst (λ v. P a b c v e') s (subst (P a b c d) t h))))
