-- The earliest and latest times of a device, from least ends under the edges of the lines and under the exchanged edges.
use Rattle.std.proofs.Common.{◌≡◌, ℕ, ◌<◌, List, map, Some, None, Ok, Err, Option, Result, sym, refl, ap, ◌∙◌, subst, arith, MatchResult}
use Rattle.lines.specs.Timetables.{Keepable, Clashes, Earliest, Latest}
use Rattle.lines.specs.declared.line.Line.{Line}
use Rattle.scales.specs.declared.sums.OrderedSums.{Ghosts}
use Rattle.scales.specs.Order.{NotAfter}
use Rattle.scales.proofs.Lawful.{Laws}
use Rattle.scales.proofs.Order.{along, opposed_falls, opposed_opposed}
use Rattle.bounds.proofs.Grounds.{has_from_map}
use Rattle.bounds.proofs.Solutions.{mirrored}
use Rattle.bounds.specs.Bounds.{Times, Solves, Fit, Ready, bounds}
use Rattle.bounds.specs.Ends.{LeastEnd}
use Rattle.bounds.specs.Mirror.{exchanged}
use Rattle.bounds.specs.declared.system.Unmet.{Unmet}
use Rattle.bounds.specs.declared.edge.Edge.{Edge}
use Rattle.verdicts.specs.Covering.{Covers}
use Rattle.verdicts.specs.Windows.{PrintableEnd}
use Rattle.verdicts.proofs.Covering.{grounded, grounded_device, keeps_solves, solves_keeps}

-- edges that are ready are so with their ends exchanged
pub ready_exchanged : {S : Type 0} (m : Ghosts S) (n : ℕ) (weights : List S) (es : List Edge) → Ready m n weights es → Ready m n weights (map exchanged es)
ready_exchanged m n weights es ready e has =
    let from = has_from_map exchanged es e has in
    let fit = ready from.0 from.1 in
    subst (Fit m n weights) from.2 (record { at_in = fit.from_in; from_in = fit.at_in; weight_in = fit.weight_in; short = fit.short })

module _ {S : Type 0} (m : Ghosts S) (laws : Laws m) (n : ℕ) (weights : List S) (es : List Edge) (lines : Line → Type 0) (covers : Covers m n weights es lines) (x : ℕ) (within : x < n) where
  pub earliest_of : (r : Result (Option S) Unmet) → LeastEnd m n (bounds m weights es) x r → MatchResult r (λ end. Keepable m lines × Earliest m lines x end × PrintableEnd m end) (λ _. Clashes m lines)
  earliest_of (Err u) unmet = λ t keeps. unmet (grounded m n t) (keeps_solves m n weights es lines covers t keeps).meets
  earliest_of (Ok None) free = (let s = free m.zero in (s.0, solves_keeps m n weights es lines covers s.0 s.1), (λ t keeps. let s = free (t x) in (s.0, solves_keeps m n weights es lines covers s.0 s.1, s.2)), tt)
  earliest_of (Ok (Some v)) at = (
    (at.0.0, solves_keeps m n weights es lines covers at.0.0 at.0.1),
    (
      (at.0.0, solves_keeps m n weights es lines covers at.0.0 at.0.1, at.0.2),
      (λ t keeps. subst (NotAfter m (m.means v)) (grounded_device m n t x within) (at.1 (grounded m n t) (keeps_solves m n weights es lines covers t keeps))),
    ),
    omega (arith, at.2),
  )

  -- a timetable that keeps the lines solves the exchanged edges, turned round, and the other way
  turned_solves : (t : Times m) → Solves m n (bounds m weights es) t → Solves m n (bounds m weights (map exchanged es)) (λ y. m.opposed (t y))
  turned_solves t solves = (mirrored m laws n weights es t).0 solves

  solves_turned : (t : Times m) → Solves m n (bounds m weights (map exchanged es)) t → Solves m n (bounds m weights es) (λ y. m.opposed (t y))
  solves_turned t solves = (mirrored m laws n weights es t).1 solves

  pub latest_none : (u : Unmet) → LeastEnd m n (bounds m weights (map exchanged es)) x (Err u) → Clashes m lines
  latest_none u unmet t keeps = unmet _ (turned_solves (grounded m n t) (keeps_solves m n weights es lines covers t keeps)).meets

  pub latest_free : LeastEnd m n (bounds m weights (map exchanged es)) x (Ok None) → Latest m lines x None
  latest_free free t keeps =
      let s = free (m.opposed (t x)) in (
        (λ y. m.opposed (s.0 y)),
        solves_keeps m n weights es lines covers _ (solves_turned s.0 s.1),
        (λ back. s.2 (along m laws refl (opposed_opposed m laws (s.0 x)) (opposed_falls m laws _ _ back))),
      )

  pub latest_at : (v w : S) → m.means w ≡ m.opposed (m.means v) → LeastEnd m n (bounds m weights (map exchanged es)) x (Ok (Some v)) → Latest m lines x (Some w)
  latest_at v w e at = (
    ((λ y. m.opposed (at.0.0 y)), solves_keeps m n weights es lines covers _ (solves_turned at.0.0 at.0.1), ap m.opposed at.0.2 ∙ sym e),
    (λ t keeps.
        let low = at.1 _ (turned_solves (grounded m n t) (keeps_solves m n weights es lines covers t keeps)) in
        along m laws (opposed_opposed m laws _ ∙ grounded_device m n t x within) (sym e) (opposed_falls m laws _ _ low)),
  )
