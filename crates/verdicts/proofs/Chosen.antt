-- The edges of the chosen lines of a table, and of one more, cover those lines.
use Rattle.std.proofs.Common.{◌≡◌, ℕ, ◌≤◌, Bool, ◌≢◌, List, ◌++◌, length, get_or, set, IfSome, Some, None, Option, sym, refl, subst, inl, inr, ⊎_elim, arith, length-set}
use Rattle.std.specs.List.{ContainsAt as Has}
use Rattle.std.proofs.lemmas.Option.{MatchOption-at_some}
use Rattle.std.proofs.ByRecursion.{has_append_left, has_append_right}
use Rattle.lines.specs.Bounding.{Weighs, edges_of}
use Rattle.lines.specs.Proper.{Limited, Proper}
use Rattle.lines.specs.declared.line.Line.{Line}
use Rattle.scales.specs.declared.sums.OrderedSums.{Ghosts}
use Rattle.bounds.proofs.Rows.{times_set_same, times_set_other}
use Rattle.bounds.specs.Bounds.{times_of}
use Rattle.bounds.specs.declared.edge.Edge.{Edge}
use Rattle.verdicts.specs.Covering.{Covers}
use Rattle.tables.specs.Gathering.{Gathered, Weighed, edges_of_record}
use Rattle.tables.specs.Tables.{Shows}
use Rattle.verdicts.specs.Verdicts.{chosen_lines}
use Rattle.tables.proofs.Edges.{has_either}
use Rattle.tables.proofs.Records.{shown_below}

-- an edge under a number is of the line that stands there
of_record : (n k : ℕ) (e : Edge) (o : Option Line) → Has (edges_of_record n k o) e → (l : Line) × (o ≡ Some l) × Has (edges_of n k l) e
of_record n k e None has = absurd (omega (arith, has.1))
of_record n k e (Some l) has = (l, refl, has)

pub none_some : (l : Line) → None ≡ Some l → ⊥
none_some l e = let z : ◌≡◌ {A = ℕ} 0 1 = cc in omega arith

-- every chosen line is within its limits, and the one more if there is one
pub chosen_limited : (n : ℕ) (records : List (Option Line)) (picked : List Bool) (more : Option Line) → ((k : ℕ) (l : Line) → Shows records k l → Proper n l) → IfSome more (Limited n) → (l : Line) → chosen_lines records picked more l → Limited n l
chosen_limited n records picked more proper lim l = ⊎_elim (λ c. (proper c.0 l c.2).limited) (λ is. MatchOption-at_some (Unit {0}) (Limited n) l is lim)

module _ {S : Type 0} (m : Ghosts S) (n : ℕ) (records : List (Option Line)) (picked : List Bool) (full : length records ≡ 400)
    (proper : (k : ℕ) (l : Line) → Shows records k l → Proper n l) (weights : List S) (weighed : Weighed m records weights)
    (es : List Edge) (gathered : Gathered n records picked 400 es) where
  pub covers_chosen : 400 ≤ length weights → Covers m n weights es (chosen_lines records picked None)
  covers_chosen room = record {
    sound = λ e has.
        let s = gathered.sound e has in
        let r = of_record n s.0 e (get_or records s.0 None) s.3 in
        (r.0, s.0, inl (s.0, s.2, r.1), omega (arith, s.1), weighed s.0 r.0 r.1, r.2);
    complete = λ l. ⊎_elim
        (λ c. (c.0, weighed c.0 l c.2, λ e has. gathered.complete c.0 (omega (arith, shown_below records c.0 l c.2)) c.1 e (subst (λ o. Has (edges_of_record n c.0 o) e) (sym c.2) has)))
        (λ no'. absurd (none_some l no'));
    limited = chosen_limited n records picked None proper tt;
  }

  module _ (line : Line) (v : S) (weighs : Weighs m line (m.means v)) (limited : Limited n line) (room : 401 ≤ length weights) where
    -- the weights of the table's lines stand as they did
    pub weighed_also : Weighed m records (set weights 400 v)
    weighed_also k l shows =
        let ne : k ≢ 400 = omega (arith, shown_below records k l shows) in
        subst (Weighs m l) (sym (times_set_other m weights 400 k v ne)) (weighed k l shows)

    weighs_also : Weighs m line (times_of m (set weights 400 v) 400)
    weighs_also = subst (Weighs m line) (sym (times_set_same m weights 400 v (omega arith))) weighs

    pub covers_also : Covers m n (set weights 400 v) (es ++ edges_of n 400 line) (chosen_lines records picked (Some line))
    covers_also = record {
      sound = λ e has. ⊎_elim
          (λ old.
          let s = gathered.sound e old in
          let r = of_record n s.0 e (get_or records s.0 None) s.3 in
          (r.0, s.0, inl (s.0, s.2, r.1), omega (arith, s.1, length-set weights 400 v), weighed_also s.0 r.0 r.1, r.2))
          (λ new. (line, 400, inr refl, omega (arith, length-set weights 400 v), weighs_also, new))
          (has_either es (edges_of n 400 line) e has);
      complete = λ l. ⊎_elim
          (λ c. (c.0, weighed_also c.0 l c.2, λ e has. has_append_left es _ e (gathered.complete c.0 (omega (arith, shown_below records c.0 l c.2)) c.1 e (subst (λ o. Has (edges_of_record n c.0 o) e) (sym c.2) has))))
          (λ is. let same : line ≡ l = cc in
          subst (λ k. (j : ℕ) × Weighs m k (times_of m (set weights 400 v) j) × ((e : Edge) → Has (edges_of n j k) e → Has (es ++ edges_of n 400 line) e)) same
          (400, weighs_also, λ e has. has_append_right es (edges_of n 400 line) e has));
      limited = chosen_limited n records picked (Some line) proper limited;
    }
