-- A relation of three values, at three equal ones.
use Rattle.std.proofs.Common.{◌≡◌, subst}

pub carried : {A B C : Type 0} (P : A → B → C → Type 0) {a a' : A} {b b' : B} {c c' : C} → a ≡ a' → b ≡ b' → c ≡ c' → P a b c → P a' b' c'
carried P {a} {a'} {b} {b'} {c} {c'} p q r h = subst (λ x. P x b' c') p (subst (λ y. P a y c') q (subst (P a b) r h))
