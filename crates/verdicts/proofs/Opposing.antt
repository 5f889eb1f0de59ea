-- A line follows where its opposites clash with the lines.
use Rattle.std.proofs.Common.{◌≡◌, Bool, List, is_some, Some, Option, sym, ap, ◌∙◌, subst, inl, inr, ⊎_elim}
use Rattle.lines.proofs.Opposing.{opposed}
use Rattle.lines.specs.Keeping.{Compares, Keeps, KeepsAll, right_time}
use Rattle.lines.specs.Operators.{opposites}
use Rattle.lines.specs.Quarrels.{standing}
use Rattle.lines.specs.Timetables.{Clashes, Follows, and_also}
use Rattle.lines.specs.declared.line.Line.{Line}
use Rattle.lines.specs.declared.operator.Operator.{Operator}
use Rattle.scales.specs.declared.sums.OrderedSums.{Ghosts}
use Rattle.scales.proofs.Lawful.{Laws}
use Rattle.verdicts.specs.Following.{under_operator}
use Rattle.tables.specs.Gathering.{Picked}
use Rattle.tables.specs.Tables.{Shows}
use Rattle.verdicts.specs.Verdicts.{chosen_lines}

module _ {S : Type 0} (m : Ghosts S) (laws : Laws m) where
  -- a line follows where its opposites clash with the lines
  pub opposites_clash : (lines : Line → Type 0) (l : Line) → Clashes m (and_also lines (under_operator l (opposites l.op).0)) → ((p : Operator) → (opposites l.op).1 ≡ Some p → Clashes m (and_also lines (under_operator l p))) → Follows m lines l
  opposites_clash lines l first second t keeps =
      ⊎_elim
      (λ kept. kept)
      (λ s. ⊎_elim
      (λ is. absurd (first t (also (opposites l.op).0 (subst (λ p. Compares m p (t l.x) (right_time m t l.right)) is s.2))))
      (λ is. absurd (second s.0 is t (also s.0 s.2)))
      s.1)
      ((opposed m laws).some_holds l.op (t l.x) (right_time m t l.right))
    where
      also : (p : Operator) → Compares m p (t l.x) (right_time m t l.right) → KeepsAll m t (and_also lines (under_operator l p))
      also p kept k = ⊎_elim (keeps k) (λ is. subst (Keeps m t) (sym is) kept)

-- the standing lines and one more, as chosen
module _ (records : List (Option Line)) (picked : List Bool) (all : Picked records picked) (o : Line) where
  pub also_chosen : (l : Line) → and_also (standing (Shows records)) o l → chosen_lines records picked (Some o) l
  also_chosen l = ⊎_elim (λ s. inl (s.0, all s.0 ∙ ap is_some s.1, s.1)) (λ is. inr (ap Some (sym is)))

  pub chosen_also : (l : Line) → chosen_lines records picked (Some o) l → and_also (standing (Shows records)) o l
  chosen_also l = ⊎_elim (λ c. inl (c.0, c.2)) (λ is. inr (let e : l ≡ o = cc in e))

  pub clash_also : {S : Type 0} (m : Ghosts S) → Clashes m (chosen_lines records picked (Some o)) → Clashes m (and_also (standing (Shows records)) o)
  clash_also m clash t keeps = clash t (λ l c. keeps l (chosen_also l c))
