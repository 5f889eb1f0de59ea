-- The edges of the chosen lines, gathered number by number.
use Rattle.std.proofs.Common.{◌≡◌, ℕ, ◌+◌, ◌≤◌, Bool, true, false, ◌⊎◌, List, ◌++◌, length, get_or, Some, None, Option, subst, inl, inr, ⊎_elim, arith}
use Rattle.std.specs.List.{ContainsAt as Has}
use Rattle.std.proofs.ByRecursion.{all-has, All-append, all_has_itself, All-weaker, has_append_left, has_append_right}
use Rattle.std.proofs.lemmas.Bool.{cases_eq, both_ways}
use Rattle.lines.specs.declared.line.Line.{Line}
use Rattle.bounds.specs.declared.edge.Edge.{Edge}
use Rattle.lines.specs.Bounding.{edges_by}
use Rattle.lines.specs.declared.operator.Operator.{Operator}
use Rattle.lines.specs.declared.operator.Operator.TheVariants.{Before, NotAfter, With, NotBefore, After}
use Rattle.tables.specs.Gathering.{Chosen, Gathered, edges_of_record, edges_under}

-- what is in one list after another is in one of the two
pub has_either : {X : Type 0} (xs ys : List X) (x : X) → Has (xs ++ ys) x → Has xs x ⊎ Has ys x
has_either xs ys x h = all-has (λ y. Has xs y ⊎ Has ys y) (xs ++ ys) x (All-append _ xs ys (All-weaker (Has xs) _ (λ y. inl) xs (all_has_itself xs)) (All-weaker (Has ys) _ (λ y. inr) ys (all_has_itself ys))) h

-- a line has one edge, or two
few_by : (n w : ℕ) (l : Line) (o : Operator) → length (edges_by o n w l) ≤ 2
few_by n w l Before = omega arith
few_by n w l NotAfter = omega arith
few_by n w l With = omega arith
few_by n w l NotBefore = omega arith
few_by n w l After = omega arith

few_of_record : (n k : ℕ) (o : Option Line) → length (edges_of_record n k o) ≤ 2
few_of_record n k None = omega arith
few_of_record n k (Some l) = few_by n k l l.op

pub few_under : (n : ℕ) (records : List (Option Line)) (k : ℕ) → length (edges_under n records k) ≤ 2
few_under n records k = few_of_record n k (get_or records k None)

module _ (n : ℕ) (records : List (Option Line)) (picked : List Bool) where
  pub gathered_skip : (i : ℕ) (es : List Edge) → get_or picked i false ≡ false → Gathered n records picked i es → Gathered n records picked (i + 1) es
  gathered_skip i es out g = record {
    sound = λ e has. let s = g.sound e has in (s.0, omega (arith, s.1), s.2, s.3);
    complete = λ k l c e has. ⊎_elim
        (λ (at : k ≡ i). absurd (both_ways (get_or picked i false) out (subst (Chosen picked) at c)))
        (λ ne. g.complete k (omega arith) c e has)
        (cases_eq k i);
  }

  pub gathered_more : (i : ℕ) (es : List Edge) → get_or picked i false ≡ true → Gathered n records picked i es → Gathered n records picked (i + 1) (es ++ edges_under n records i)
  gathered_more i es in' g = record {
    sound = λ e has. ⊎_elim
        (λ old. let s = g.sound e old in (s.0, omega (arith, s.1), s.2, s.3))
        (λ new. (i, omega arith, in', new))
        (has_either es (edges_under n records i) e has);
    complete = λ k l c e has. ⊎_elim
        (λ (at : k ≡ i). has_append_right es (edges_under n records i) e (subst (λ j. Has (edges_under n records j) e) at has))
        (λ ne. has_append_left es (edges_under n records i) e (g.complete k (omega arith) c e has))
        (cases_eq k i);
  }
