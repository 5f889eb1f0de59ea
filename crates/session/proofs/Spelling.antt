-- At each place of a session one command is spelt, or the session ends there, or one fault is met.
use Rattle.std.proofs.Common.{◌≡◌, ℕ, ◌+◌, ◌<◌, cond, eqb, ◌⊎◌, List, [], length, sym, refl, ap, ◌∙◌, inl, inr, ⊎_elim, arith}
use Rattle.std.proofs.lemmas.Bool.{cases_eq, cases_lt}
use Rattle.lines.specs.declared.line.Right.{Right}
use Rattle.lines.specs.declared.line.Right.TheVariants.{Device, Constant}
use Rattle.lines.specs.declared.call.Call.{Call}
use Rattle.lines.specs.declared.call.Call.TheVariants.{Enter, Strike, Settle, Window, Follows}
use Rattle.session.specs.declared.fault.Fault.{Fault}
use Rattle.session.specs.Commands.{Closes, OperandsAt, Spelt, Stops, behind, enter_letter, follows_letter, letter_of, line_at, line_width, width_of}
use Rattle.session.specs.Headings.{byte_at}
use Rattle.session.specs.Operands.{clock_at, cut_off, number_at, pair_at}

-- the command with this letter whose operands stand from p on
abbrev told : ℕ → List ℕ → ℕ → Call
told b bs p =
    cond (eqb b 0x45) (Enter (number_at bs p) (pair_at bs (p + 2)))
    (cond (eqb b 0x43) (Enter (number_at bs p) (clock_at bs (p + 2)))
    (cond (eqb b 0x53) (Strike (number_at bs p))
    (cond (eqb b 0x57) (Window (byte_at bs p))
    (cond (eqb b 0x46) (Follows (pair_at bs p))
    (cond (eqb b 0x47) (Follows (clock_at bs p))
    Settle)))))

told_enter : (bs : List ℕ) (p : ℕ) (r : Right) → Enter (number_at bs p) (line_at bs (p + 2) r) ≡ told (enter_letter r) bs p
told_enter bs p (Device y) = refl
told_enter bs p (Constant c) = refl

told_follows : (bs : List ℕ) (p : ℕ) (r : Right) → Follows (line_at bs p r) ≡ told (follows_letter r) bs p
told_follows bs p (Device y) = refl
told_follows bs p (Constant c) = refl

told_is : (bs : List ℕ) (p : ℕ) (c : Call) → OperandsAt bs p c → c ≡ told (letter_of c) bs p
told_is bs p (Enter k a) e = let n = e.0 in let l = e.1 in let t = told_enter bs p a.right in cc
told_is bs p (Strike k) e = ap Strike e
told_is bs p Settle e = refl
told_is bs p (Window x) e = ap Window e
told_is bs p (Follows a) e = ap Follows e ∙ told_follows bs p a.right

pub spelt_one : (bs : List ℕ) (p : ℕ) {c d : Call} → Spelt bs p c → Spelt bs p d → c ≡ d
spelt_one bs p {c} {d} s t =
    told_is bs (p + 1) c s.operands ∙ ap (λ b. told b bs (p + 1)) (sym s.letter ∙ t.letter) ∙ sym (told_is bs (p + 1) d t.operands)

-- the letter tells how many operand bytes follow
abbrev width_at : ℕ → ℕ
width_at b = width_of (told b [] 0)

enter_width : (r : Right) → 2 + line_width r ≡ width_at (enter_letter r)
enter_width (Device y) = refl
enter_width (Constant c) = refl

follows_width : (r : Right) → line_width r ≡ width_at (follows_letter r)
follows_width (Device y) = refl
follows_width (Constant c) = refl

width_is : (c : Call) → width_of c ≡ width_at (letter_of c)
width_is (Enter k a) = enter_width a.right
width_is (Strike k) = refl
width_is Settle = refl
width_is (Window x) = refl
width_is (Follows a) = follows_width a.right

same_width : (b : ℕ) (c d : Call) → b ≡ letter_of c → b ≡ letter_of d → width_of c ≡ width_of d
same_width b c d e h = width_is c ∙ ap width_at (sym e ∙ h) ∙ sym (width_is d)

enter_not_closing : (r : Right) → enter_letter r ≡ 0x5A → ⊥
enter_not_closing (Device y) e = omega arith
enter_not_closing (Constant c) e = omega arith

follows_not_closing : (r : Right) → follows_letter r ≡ 0x5A → ⊥
follows_not_closing (Device y) e = omega arith
follows_not_closing (Constant c) e = omega arith

not_closing : (c : Call) → letter_of c ≡ 0x5A → ⊥
not_closing (Enter k a) e = enter_not_closing a.right e
not_closing (Strike k) e = omega arith
not_closing Settle e = omega arith
not_closing (Window x) e = omega arith
not_closing (Follows a) e = follows_not_closing a.right e

module _ (bs : List ℕ) (p : ℕ) where
  pub spelt_closes : (c : Call) → Spelt bs p c → Closes bs p → ⊥
  spelt_closes c s z = not_closing c (sym s.letter ∙ z.letter)

  pub spelt_stops : (c : Call) (f : Fault) → Spelt bs p c → Stops bs p f → ⊥
  spelt_stops c f s (inl m) = omega (arith, s.inside, m.past)
  spelt_stops c f s (inr (inl u)) = u.strange c s.letter
  spelt_stops c f s (inr (inr t)) = omega (arith, s.inside, t.short, same_width (byte_at bs p) c t.command s.letter t.letter)

  pub closes_stops : (f : Fault) → Closes bs p → Stops bs p f → ⊥
  closes_stops f z (inl m) = omega (arith, z.inside, m.past)
  closes_stops f z (inr (inl u)) = u.going_on z.letter
  closes_stops f z (inr (inr t)) = not_closing t.command (sym t.letter ∙ z.letter)

  pub stops_one : (f g : Fault) → Stops bs p f → Stops bs p g → f ≡ g
  stops_one f g (inl m) (inl n) = m.fault ∙ sym n.fault
  stops_one f g (inl m) (inr (inl u)) = absurd (omega (arith, m.past, u.inside))
  stops_one f g (inl m) (inr (inr t)) = absurd (omega (arith, m.past, t.inside))
  stops_one f g (inr (inl u)) (inl n) = absurd (omega (arith, n.past, u.inside))
  stops_one f g (inr (inl u)) (inr (inl v)) = u.fault ∙ sym v.fault
  stops_one f g (inr (inl u)) (inr (inr t)) = absurd (u.strange t.command t.letter)
  stops_one f g (inr (inr t)) (inl n) = absurd (omega (arith, n.past, t.inside))
  stops_one f g (inr (inr t)) (inr (inl v)) = absurd (v.strange t.command t.letter)
  stops_one f g (inr (inr t)) (inr (inr w)) = t.fault ∙ sym w.fault

  -- what stands at p
  abbrev pub Found : Type 0
  Found = ((c : Call) × Spelt bs p c) ⊎ (Closes bs p ⊎ ((f : Fault) × Stops bs p f))

  -- a letter with its operands, or with too few bytes behind it
  begun : (c : Call) → p < length bs → byte_at bs p ≡ letter_of c → OperandsAt bs (p + 1) c → Found
  begun c inside letter operands =
      ⊎_elim
      (λ short. inr (inr (cut_off bs, inr (inr (record { inside = inside; command = c; letter = letter; short = short; fault = refl })))))
      (λ all. inl (c, record { letter = letter; inside = all; operands = operands }))
      (cases_lt (length bs) (behind p c))

  -- the letter is this one, or another
  either : (b : ℕ) → (byte_at bs p ≡ b → Found) → ((byte_at bs p ≡ b → ⊥) → Found) → Found
  either b is not = ⊎_elim is not (cases_eq (byte_at bs p) b)

  abbrev Not : ℕ → Type 0
  Not b = byte_at bs p ≡ b → ⊥

  not_enter : Not 0x45 → Not 0x43 → (r : Right) → byte_at bs p ≡ enter_letter r → ⊥
  not_enter n-E n-C (Device y) e = n-E e
  not_enter n-E n-C (Constant c) e = n-C e

  not_follows : Not 0x46 → Not 0x47 → (r : Right) → byte_at bs p ≡ follows_letter r → ⊥
  not_follows n-F n-G (Device y) e = n-F e
  not_follows n-F n-G (Constant c) e = n-G e

  strange : Not 0x45 → Not 0x43 → Not 0x53 → Not 0x54 → Not 0x57 → Not 0x46 → Not 0x47 → (c : Call) → byte_at bs p ≡ letter_of c → ⊥
  strange n-E n-C n-S n-T n-W n-F n-G (Enter k a) e = not_enter n-E n-C a.right e
  strange n-E n-C n-S n-T n-W n-F n-G (Strike k) e = n-S e
  strange n-E n-C n-S n-T n-W n-F n-G Settle e = n-T e
  strange n-E n-C n-S n-T n-W n-F n-G (Window x) e = n-W e
  strange n-E n-C n-S n-T n-W n-F n-G (Follows a) e = not_follows n-F n-G a.right e

  inside_found : p < length bs → Found
  inside_found h =
      either 0x45 (λ e. begun (Enter (number_at bs (p + 1)) (pair_at bs (p + 1 + 2))) h e (refl, refl)) (λ n-E.
      either 0x43 (λ e. begun (Enter (number_at bs (p + 1)) (clock_at bs (p + 1 + 2))) h e (refl, refl)) (λ n-C.
      either 0x53 (λ e. begun (Strike (number_at bs (p + 1))) h e refl) (λ n-S.
      either 0x54 (λ e. begun Settle h e tt) (λ n-T.
      either 0x57 (λ e. begun (Window (byte_at bs (p + 1))) h e refl) (λ n-W.
      either 0x46 (λ e. begun (Follows (pair_at bs (p + 1))) h e refl) (λ n-F.
      either 0x47 (λ e. begun (Follows (clock_at bs (p + 1))) h e refl) (λ n-G.
      either 0x5A (λ e. inr (inl (record { inside = h; letter = e }))) (λ n-Z.
      inr (inr (_, inr (inl (record { inside = h; strange = strange n-E n-C n-S n-T n-W n-F n-G; going_on = n-Z; fault = refl }))))))))))))

  pub found : Found
  found = ⊎_elim inside_found (λ h. inr (inr (_, inl (record { past = h; fault = refl })))) (cases_lt p (length bs))
