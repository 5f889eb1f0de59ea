-- A turn of the loop that makes the calls one after another.
use Rattle.std.proofs.Common.{◌≡◌, ℕ, ◌+◌, ◌<◌, ◌≤◌, List, [], ◌∷◌, ◌++◌, map, length, get_or, take, set, sym, ap, ◌∙◌, subst, append_assoc, arith, below_more}
use mathlib.Core.List.{map-append}
use Rattle.std.proofs.lemmas.List.{take_more_set, take-set-le, get_or_read, get_or-set_same, get_or-set_other}
use Rattle.lines.specs.Quarrels.{Sheet}
use Rattle.scales.specs.declared.sums.OrderedSums.{Ghosts}
use Rattle.scales.proofs.Lawful.{Laws}
use Rattle.lives.specs.Lives.{Lawful, ShowsAll}
use Rattle.lives.specs.Standing.{Made, Stands, made}
use Rattle.lives.specs.declared.steps.Step.{Step}
use Rattle.lives.proofs.Same.{answers_same}
use Rattle.lives.proofs.Tells.{lawful}

-- what holds of the steps made so far, and of the step at i, which is t now, holds with that one in its place
pub turn_on : {S : Type 0} (P : ℕ → Step S → Step S → Type 0) (asked xs : List (Step S)) (i : ℕ) (s t : Step S) → i < length xs → s ≡ get_or xs i s
    → ((j : ℕ) (d : Step S) → i ≤ j → get_or xs j d ≡ get_or asked j d) → P i s t
    → ((j : ℕ) → j < i → (d : Step S) → P j (get_or asked j d) (get_or xs j d))
    → (j : ℕ) → j < i + 1 → (d : Step S) → P j (get_or asked j d) (get_or (set xs i t) j d)
turn_on P asked xs i s t within read rest here before =
    below_more _ i
    (λ j h d. let ne : j ≡ i → ⊥ = omega arith in subst (P j (get_or asked j d)) (sym (get_or-set_other xs i j t d ne)) (before j h d))
    (λ d. subst (P i (get_or asked i d)) (sym (get_or-set_same xs i t d within)) (subst (λ v. P i v t) (get_or_read xs i s within read d ∙ rest i d (omega arith)) here))

module _ {S : Type 0} (m : Ghosts S) (laws : Laws m) where
  -- lawful for what a sheet shows is lawful for what stands
  pub lawful_stands : (n : ℕ) (sheet : Sheet) (past : List (Made S)) (s t : Step S) → ShowsAll sheet past → Lawful m n sheet s t → Lawful m n (Stands past) s t
  lawful_stands n sheet past s t shows l =
      lawful m laws n (Stands past) s t (λ k line st. l.proper k line ((shows k line).1 st)) (answers_same sheet (Stands past) shows m n s t l.answers)

  -- the step at i was made, and is t now
  module _ (n : ℕ) (before : Sheet) (past : List (Made S)) (asked xs : List (Step S)) (i : ℕ) (s t : Step S) (within : i < length xs)
      (shows : ShowsAll before (past ++ map made (take i xs))) (done : Lawful m n before s t) where
    pub turn_shows : (after : Sheet) → ShowsAll after ((past ++ map made (take i xs)) ++ made t ∷ []) → ShowsAll after (past ++ map made (take (i + 1) (set xs i t)))
    turn_shows after =
        subst (ShowsAll after)
        (append_assoc past (map made (take i xs)) (made t ∷ []) ∙ ap (λ v. past ++ v) (sym (ap (map made) (take_more_set xs i t within) ∙ map-append made (take i xs) (t ∷ []))))

    pub turn_lawful : s ≡ get_or xs i s
        → ((j : ℕ) (d : Step S) → i ≤ j → get_or xs j d ≡ get_or asked j d)
        → ((j : ℕ) → j < i → (d : Step S) → Lawful m n (Stands (past ++ map made (take j xs))) (get_or asked j d) (get_or xs j d))
        → (j : ℕ) → j < i + 1 → (d : Step S) → Lawful m n (Stands (past ++ map made (take j (set xs i t)))) (get_or asked j d) (get_or (set xs i t) j d)
    turn_lawful read rest lived j h d =
        subst (λ v. Lawful m n (Stands (past ++ map made v)) (get_or asked j d) (get_or (set xs i t) j d)) (sym (take-set-le j xs i t (omega arith)))
        (turn_on (λ k u v. Lawful m n (Stands (past ++ map made (take k xs))) u v) asked xs i s t within read rest (lawful_stands n before (past ++ map made (take i xs)) s t shows done) lived j h d)

  -- the steps that are yet to be made are as they were
  pub turn_rest : (asked xs : List (Step S)) (i : ℕ) (t : Step S) → ((j : ℕ) (d : Step S) → i ≤ j → get_or xs j d ≡ get_or asked j d)
      → (j : ℕ) (d : Step S) → i + 1 ≤ j → get_or (set xs i t) j d ≡ get_or asked j d
  turn_rest asked xs i t rest j d h = let ne : j ≡ i → ⊥ = omega arith in get_or-set_other xs i j t d ne ∙ rest j d (omega arith)
