-- A round that has come part of the way through its edges.
use Rattle.std.proofs.Common.{◌≡◌, ℕ, ◌+◌, ◌<◌, ◌≤◌, ◌⊎◌, List, length, get_or, sym, ap, ◌∙◌, subst, inl, inr, ⊎_elim, arith}
use Rattle.std.proofs.ByRecursion.{has_get_or}
use Rattle.std.proofs.lemmas.List.{get_or_default}
use Rattle.scales.specs.declared.sums.OrderedSums.{Ghosts}
use Rattle.scales.specs.Order.{NotAfter}
use Rattle.scales.proofs.Lawful.{Laws}
use Rattle.bounds.specs.declared.edge.Edge.{Edge}
use Rattle.bounds.specs.Bounds.{bound_of, bounds, times_of, asked}
use Rattle.bounds.specs.Rounds.{Raised, Cause, Round}
use Rattle.bounds.proofs.Counts.{at_or_below}
use Rattle.bounds.proofs.Grounds.{has_map, has_from_map}

-- the new times after the first i edges of a round
pub record Partial {S : Type 0} (m : Ghosts S) (weights : List S) (es : List Edge) (old new : List S) (i : ℕ) : Type 0 where
  pub up : (x : ℕ) → NotAfter m (times_of m old x) (times_of m new x)
  pub held : (j : ℕ) (d : Edge) → j < i → NotAfter m (asked m (times_of m old) (bound_of m weights (get_or es j d))) (times_of m new (get_or es j d).at)
  pub why : (x : ℕ) → (times_of m new x ≡ times_of m old x) ⊎ Cause m (bounds m weights es) (times_of m old) x (times_of m new x)

module _ {S : Type 0} (m : Ghosts S) (laws : Laws m) (weights : List S) (es : List Edge) (old : List S) where
  -- `e` is only what stands for an edge past the end
  pub partial_more : (new after : List S) (i : ℕ) (e : Edge) → i < length es → Raised m (bound_of m weights (get_or es i e)) old new after → Partial m weights es old new i → Partial m weights es old after (i + 1)
  partial_more new after i e l r p = record {
    up = λ x. laws.transitive _ _ _ (p.up x) (r.up x);
    held = λ j d h. ⊎_elim
        (λ (last : j ≡ i).
        let there : get_or es i e ≡ get_or es j d = get_or_default es i e d l ∙ ap (λ k. get_or es k d) (sym last) in
        subst (λ f. NotAfter m (asked m (times_of m old) (bound_of m weights f)) (times_of m after f.at)) there r.held)
        (λ below. laws.transitive _ _ _ (p.held j d below) (r.up (get_or es j d).at))
        (at_or_below j i (omega arith));
    why = λ x. ⊎_elim
        (λ kept. ⊎_elim
        (λ was. inl (kept ∙ was))
        (λ c. inr (record { bound = c.bound; has = c.has; place = c.place; value = kept ∙ c.value }))
        (p.why x))
        (λ raised. inr (record { bound = bound_of m weights (get_or es i e); has = has_map (bound_of m weights) es (get_or es i e) (has_get_or es i e l); place = raised.0; value = raised.1 }))
        (r.why x);
  }

  pub partial_all : (new : List S) (i : ℕ) → length es ≤ i → Partial m weights es old new i → Round m (bounds m weights es) (times_of m old) (times_of m new)
  partial_all new i l p = record {
    up = p.up;
    held = λ b has.
        let from = has_from_map (bound_of m weights) es b has in
        let place = from.1 in
        subst (λ c. NotAfter m (asked m (times_of m old) c) (times_of m new c.at)) (ap (bound_of m weights) (place.2 from.0) ∙ from.2)
        (p.held place.0 from.0 (omega (arith, place.1)));
    why = p.why;
  }
