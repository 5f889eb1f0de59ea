-- What edges that are fit give as bounds.
use Rattle.std.proofs.Common.{◌≡◌, ℕ, ◌≤◌, Bool, true, false, cond, List, map, refl, ap, ◌∙◌, subst, arith}
use Rattle.std.specs.List.{ContainsAt as Has}
use Rattle.std.proofs.ByRecursion.{all-has, All-map, All-weaker, all_has_itself}
use Rattle.std.proofs.lemmas.List.{get_or-map, length-map}
use Rattle.scales.specs.declared.sums.OrderedSums.{Ghosts}
use Rattle.scales.proofs.Lawful.{Laws}
use Rattle.bounds.specs.declared.edge.Edge.{Edge}
use Rattle.bounds.specs.Bounds.{Bound, bound_of, bounds, times_of, Fit, Ready, largest}

-- an element of a mapped list comes from one of the list, and goes to one
pub has_from_map : {X Y : Type 0} (f : X → Y) (xs : List X) (y : Y) → Has (map f xs) y → (x : X) × Has xs x × (f x ≡ y)
has_from_map {X} {Y} f xs y has =
    let From : Y → Type 0 = λ z. (x : X) × Has xs x × (f x ≡ z) in
    all-has From (map f xs) y (All-map From f xs (All-weaker (Has xs) (λ x. From (f x)) (λ x h. (x, h, refl)) xs (all_has_itself xs))) has

pub has_map : {X Y : Type 0} (f : X → Y) (xs : List X) (x : X) → Has xs x → Has (map f xs) (f x)
has_map f xs x has =
    (has.0, omega (arith, length-map xs f, has.1), λ d. get_or-map f xs has.0 x d has.1 ∙ ap f (has.2 x))

-- a bound among n devices and the origin, by a time that is not too large
pub record Grounded {S : Type 0} (m : Ghosts S) (n : ℕ) (b : Bound m.Time) : Type 0 where
  pub at_in : b.at ≤ n
  pub from_in : b.from ≤ n
  pub short : m.size b.by ≤ largest

abbrev pub AllGrounded : {S : Type 0} (m : Ghosts S) → ℕ → List (Bound m.Time) → Type 0
AllGrounded m n bs = (b : Bound m.Time) → Has bs b → Grounded m n b

module _ {S : Type 0} (m : Ghosts S) (laws : Laws m) (n : ℕ) (weights : List S) where
  either_way : (b : Bool) (x : m.Time) → m.size x ≤ largest → m.size (cond b (m.opposed x) x) ≤ largest
  either_way true x h = omega (arith, laws.mirrored x, h)
  either_way false x h = h

  pub fit_grounded : (e : Edge) → Fit m n weights e → Grounded m n (bound_of m weights e)
  fit_grounded e fit = record {
    at_in = fit.at_in;
    from_in = fit.from_in;
    short = either_way e.opposed (times_of m weights e.weight) fit.short;
  }

  pub ready_grounded : (es : List Edge) → Ready m n weights es → AllGrounded m n (bounds m weights es)
  ready_grounded es ready b has =
      let from = has_from_map (bound_of m weights) es b has in
      subst (Grounded m n) from.2 (fit_grounded from.0 (ready from.0 from.1))
