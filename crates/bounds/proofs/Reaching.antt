-- How far what is reached by a few bounds can lie.
use Rattle.std.proofs.Common.{ℕ, suc, ◌+◌, ◌*◌, ◌≤◌, List, sym, refl, ap, ◌∙◌, arith}
use native.Mathlib.Decide.{le_ind}
use Rattle.std.specs.List.{ContainsAt as Has}
use Rattle.scales.specs.declared.sums.OrderedSums.{Ghosts}
use Rattle.scales.specs.Low.{walked, Low}
use Rattle.scales.specs.Order.{NotAfter}
use Rattle.scales.proofs.Lawful.{Laws}
use Rattle.scales.proofs.Order.{itself, same, along, sum_mono}
use Rattle.bounds.specs.Bounds.{Bound, Times, Meets, Solves, NowhereBefore, largest}
use Rattle.bounds.specs.Reach.{Source, from_start, from_origin, Reached, device, origin, stay, step}
use Rattle.bounds.proofs.Grounds.{AllGrounded}
use Rattle.bounds.proofs.Walks.{grown, walked_plus}

-- s is nowhere before what a source gives
abbrev pub Over : {S : Type 0} (m : Ghosts S) → ℕ → m.Time → Source → Times m → Type 0
Over m n start from_start s = NowhereBefore m n start s
Over m n start from_origin s = NotAfter m m.zero (s n)

module _ {S : Type 0} (m : Ghosts S) (laws : Laws m) (n : ℕ) (bs : List (Bound m.Time)) (start : m.Time) where
  -- what is reached is not after any times that meet the bounds and are nowhere before the source
  pub reached_under : {o : Source} {r x : ℕ} {v : m.Time} (s : Times m) → Meets m bs s → Over m n start o s → Reached m bs n start o r x v → NotAfter m v (s x)
  reached_under {x = x} s meets over (device l) = over x l
  reached_under s meets over origin = over
  reached_under s meets over (stay h) = reached_under s meets over h
  reached_under s meets over (step b has h) =
      laws.transitive _ _ _ (laws.shifted _ _ b.by (reached_under s meets over h)) (meets b has)

  -- as a solution nowhere before the start is, whatever the source
  pub over_sources : (s : Times m) → Solves m n bs s → NowhereBefore m n start s → (o : Source) → Over m n start o s
  over_sources s solves above from_start = above
  over_sources s solves above from_origin = same m laws (sym solves.origin)

  pub reached_within : {o : Source} {r x : ℕ} {v : m.Time} (q : ℕ) → r ≤ q → Reached m bs n start o r x v → Reached m bs n start o q x v
  reached_within {o} {x = x} {v = v} q l h = le_ind (λ i. Reached m bs n start o i x v) h (λ i _ k. stay k) q l

  module _ (grounded : AllGrounded m n bs) where
    -- it is small
    pub reached_size : {o : Source} {r x : ℕ} {v : m.Time} (top : ℕ) → m.size start ≤ top → Reached m bs n start o r x v → m.size v ≤ top + r * largest
    reached_size top small (device l) = omega (arith, small)
    reached_size top small origin = omega (arith, laws.sizeless)
    reached_size top small (stay h) = omega (arith, reached_size top small h)
    reached_size top small (step {v = v} b has h) =
        omega (arith, reached_size top small h, laws.subadditive v b.by, (grounded b has).short)

    module _ (k : ℕ) (low : Low m largest k start) where
      -- what a walk from the start reaches in as many strides
      pub reached_low : {r x : ℕ} {v : m.Time} → Reached m bs n start from_start r x v → NotAfter m v (walked m start low.stride r)
      reached_low (device l) = itself m laws start
      reached_low (stay h) = laws.transitive _ _ _ (reached_low h) (grown m laws _ low.stride low.rises)
      reached_low (step b has h) = sum_mono m laws _ _ _ _ (reached_low h) (low.longest b.by (grounded b has).short)

      -- a stride makes up for a bound
      made_up : (b : Bound m.Time) → Has bs b → NotAfter m m.zero (m.plus b.by low.stride)
      made_up b has =
          let falls : NotAfter m (m.opposed b.by) low.stride = low.longest (m.opposed b.by) (omega (arith, laws.mirrored b.by, (grounded b has).short)) in
          along m laws (laws.commutative _ _ ∙ laws.inverse b.by) (laws.commutative _ _) (laws.shifted _ _ b.by falls)

      -- a walk of one stride more from what a bound asks is no shorter
      pub walked_on : (b : Bound m.Time) → Has bs b → (v : m.Time) (r : ℕ) → NotAfter m (walked m v low.stride r) (walked m (m.plus v b.by) low.stride (suc r))
      walked_on b has v r =
          along m laws refl
          (sym (laws.associative _ _ _) ∙ ap (λ a. m.plus a low.stride) (sym (walked_plus m laws v b.by low.stride r)))
          (grown m laws _ _ (made_up b has))

      -- what is reached from the origin comes up to zero again by as many strides
      pub reached_high : {r x : ℕ} {v : m.Time} → Reached m bs n start from_origin r x v → NotAfter m m.zero (walked m v low.stride r)
      reached_high origin = itself m laws m.zero
      reached_high (stay h) = laws.transitive _ _ _ (reached_high h) (grown m laws _ low.stride low.rises)
      reached_high (step {r = r} {v = v} b has h) = laws.transitive _ _ _ (reached_high h) (walked_on b has v r)
