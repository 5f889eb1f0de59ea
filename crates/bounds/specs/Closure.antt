-- What can be made of solutions: others.
use Rattle.std.specs.Prelude.{ℕ, cond, List}
use Rattle.std.specs.List.{ContainsAt as Has}
use Rattle.scales.specs.declared.sums.OrderedSums.{Ghosts}
use Rattle.bounds.specs.Bounds.{Bound, Times, Meets, Solves}

module _ {S : Type 0} (m : Ghosts S) where
  abbrev pub earlier : m.Time → m.Time → m.Time
  earlier x y = cond (m.notafter x y) x y

  abbrev pub later : m.Time → m.Time → m.Time
  later x y = cond (m.notafter x y) y x

  pub record Closed : Type 0 where
    -- the earlier of two solutions everywhere, and the later
    pub under : (n : ℕ) (bs : List (Bound m.Time)) (s t : Times m) → Solves m n bs s → Solves m n bs t → Solves m n bs (λ x. earlier (s x) (t x))
    pub over : (n : ℕ) (bs : List (Bound m.Time)) (s t : Times m) → Solves m n bs s → Solves m n bs t → Solves m n bs (λ x. later (s x) (t x))
    -- everything, the origin too, shifted by one time
    pub moved : (bs : List (Bound m.Time)) (t : Times m) (d : m.Time) → Meets m bs t → Meets m bs (λ x. m.plus (t x) d)
    -- what meets bounds meets a part of them
    pub part : (n : ℕ) (bs cs : List (Bound m.Time)) (t : Times m) → ((b : Bound m.Time) → Has cs b → Has bs b) → Solves m n bs t → Solves m n cs t
