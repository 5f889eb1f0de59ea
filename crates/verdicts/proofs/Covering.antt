-- Edges that cover a set of lines: solutions of the edges are the timetables that keep the lines.
use Rattle.std.proofs.Common.{◌≡◌, ℕ, ◌+◌, ◌<◌, ◌≤◌, cond, ltb, List, Ok, Err, Result, is_ok, sym, refl, subst, arith}
use Rattle.std.specs.List.{ContainsAt as Has, AllByRecursion}
use Rattle.std.proofs.ByRecursion.{all-has}
use Rattle.std.proofs.lemmas.Bool.{lt-ltb, le-ltb, cond-true, cond-false}
use Rattle.lines.specs.Bounding.{base_of, edges_of, edges_by, upwards, downwards}
use Rattle.lines.specs.Keeping.{Timetable, Keeps, KeepsAll, Compares, right_time}
use Rattle.lines.specs.Proper.{Limited, Known}
use Rattle.lines.specs.declared.line.Line.{Line}
use Rattle.lines.specs.declared.line.Right.{Right}
use Rattle.lines.specs.declared.line.Right.TheVariants.{Device, Constant}
use Rattle.lines.specs.declared.operator.Operator.{Operator}
use Rattle.lines.specs.declared.operator.Operator.TheVariants.{Before, NotAfter, With, NotBefore, After}
use Rattle.scales.specs.declared.sums.OrderedSums.{Ghosts}
use Rattle.scales.specs.Low.{Low}
use Rattle.scales.specs.Order as times
use Rattle.bounds.proofs.Grounds.{has_map, has_from_map}
use Rattle.bounds.specs.Bounds.{Times, times_of, Solves, Ready, asked, bound_of, bounds, largest}
use Rattle.bounds.specs.Least.{Searched}
use Rattle.bounds.specs.declared.system.Unmet.{Unmet}
use Rattle.verdicts.specs.Covering.{Covers}
use Rattle.verdicts.specs.Verdicts.{Verdict, floor}
use Rattle.bounds.specs.declared.edge.Edge.{Edge}

-- the ends and the weight of a line's edges
module _ (n k : ℕ) (l : Line) (lim : Limited n l) where
  abbrev Fits : Edge → Type 0
  Fits e = (e.at ≤ n) × (e.from ≤ n) × (e.weight ≡ k)

  base : (r : Right) → Known n r → base_of n r ≤ n
  base (Device y) h = omega arith
  base (Constant c) h = omega arith

  up : Fits (upwards n k l)
  up = (omega (arith, lim.left), base l.right lim.right, refl)

  down : Fits (downwards n k l)
  down = (base l.right lim.right, omega (arith, lim.left), refl)

  by_operator : (o : Operator) → AllByRecursion Fits (edges_by o n k l)
  by_operator Before = (down, tt)
  by_operator NotAfter = (down, tt)
  by_operator With = (up, (down, tt))
  by_operator NotBefore = (up, tt)
  by_operator After = (up, tt)

  edge_fits : (e : Edge) → Has (edges_of n k l) e → Fits e
  edge_fits e has = all-has Fits (edges_of n k l) e (by_operator l.op) has

module _ {S : Type 0} (m : Ghosts S) where
  -- the times of n devices, with the origin at zero
  pub grounded : ℕ → Timetable m → Times m
  grounded n t x = cond (ltb x n) (t x) m.zero

  pub grounded_device : (n : ℕ) (t : Timetable m) (x : ℕ) → x < n → grounded n t x ≡ t x
  unfolding grounded
  grounded_device n t x h = cond-true (ltb x n) (t x) m.zero (lt-ltb x n h)

  grounded_origin : (n : ℕ) (t : Timetable m) → grounded n t n ≡ m.zero
  unfolding grounded
  grounded_origin n t = cond-false (ltb n n) (t n) m.zero (le-ltb n n (omega arith))

  -- a line speaks of devices only
  pub same_keeps : (n : ℕ) (l : Line) → Limited n l → (s t : Timetable m) → ((x : ℕ) → x < n → s x ≡ t x) → Keeps m s l → Keeps m t l
  same_keeps n l lim s t same keeps =
      subst (λ z. Compares m l.op z (right_time m t l.right)) (same l.x lim.left) (subst (Compares m l.op (s l.x)) (same_right l.right lim.right) keeps) where
        same_right : (r : Right) → Known n r → right_time m s r ≡ right_time m t r
        same_right (Device y) h = same y h
        same_right (Constant c) h = refl

  module _ (n : ℕ) (weights : List S) (es : List Edge) (lines : Line → Type 0) (covers : Covers m n weights es lines) where
    pub ready : Ready m n weights es
    ready e has =
        let s = covers.sound e has in
        let fits = edge_fits n s.1 s.0 (covers.limited s.0 s.2) e s.5 in
        record {
          at_in = fits.0;
          from_in = fits.1;
          weight_in = omega (arith, fits.2, s.3);
          short = subst (λ k. m.size (times_of m weights k) ≤ largest) (sym fits.2) s.4.small;
        }

    -- a solution keeps the lines
    pub solves_keeps : (t : Times m) → Solves m n (bounds m weights es) t → KeepsAll m t lines
    solves_keeps t solves l in' =
        let c = covers.complete l in' in
        (c.1.exact n c.0 weights t refl solves.origin).0
        (λ b has.
        let from = has_from_map (bound_of m weights) (edges_of n c.0 l) b has in
        solves.meets b (subst (Has (bounds m weights es)) from.2 (has_map (bound_of m weights) es from.0 (c.2 from.0 from.1))))

    -- a timetable that keeps the lines is a solution, once the origin is at zero
    pub keeps_solves : (t : Timetable m) → KeepsAll m t lines → Solves m n (bounds m weights es) (grounded n t)
    keeps_solves t keeps = record {
      meets = λ b has.
          let from = has_from_map (bound_of m weights) es b has in
          let s = covers.sound from.0 from.1 in
          let kept = same_keeps n s.0 (covers.limited s.0 s.2) t (grounded n t) (λ x h. sym (grounded_device n t x h)) (keeps s.0 s.2) in
          let met = (s.4.exact n s.1 weights (grounded n t) refl (grounded_origin n t)).1 kept in
          subst (λ c. times.NotAfter m (asked m (grounded n t) c) (grounded n t c.at)) from.2 (met (bound_of m weights from.0) (has_map (bound_of m weights) (edges_of n s.1 s.0) from.0 s.5));
      origin = grounded_origin n t;
    }

    -- what a search from the floor says of the lines
    pub verdict : (t : Times m) (r : Result (Unit {0}) Unmet) → n ≤ 200 → m.size (floor m) ≤ 1000000050 → Low m largest (n + 2) (floor m) → Searched m n (bounds m weights es) (floor m) t r → Verdict m n lines t (is_ok r)
    verdict t (Ok u) few sized low found = (
      record {
        keeps = solves_keeps t found.solves;
        above = found.above;
        least = λ s keeps above x h.
            subst (times.NotAfter m (t x)) (grounded_device n s x h)
            (found.least (grounded n s) (keeps_solves s keeps) (λ y k. subst (times.NotAfter m (floor m)) (sym (grounded_device n s y k)) (above y k)) x h);
      },
      λ x h. omega (arith, found.small x (omega arith)),
    )
    verdict t (Err u) few sized low none = λ s keeps. none.anywhere low (grounded n s) (keeps_solves s keeps).meets
