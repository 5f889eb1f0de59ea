-- What the rounds of a search have made of the start, and what each way out of the search shows.
use Rattle.std.proofs.Common.{◌≡◌, ℕ, suc, ◌+◌, ◌*◌, ◌<◌, ◌≤◌, List, sym, refl, subst, ⊎_elim, arith}
use Rattle.scales.specs.declared.sums.OrderedSums.{Ghosts}
use Rattle.scales.specs.Low.{Low}
use Rattle.scales.specs.Order.{NotAfter, Before}
use Rattle.scales.proofs.Lawful.{Laws}
use Rattle.scales.proofs.Order.{gap, along, same, weaken}
use Rattle.bounds.specs.Bounds.{Bound, Times, Meets, NowhereBefore, asked, largest}
use Rattle.bounds.specs.Least.{Least, NoTimes}
use Rattle.bounds.specs.Reach.{Source, from_start, from_origin, Reached, device, origin, stay, step}
use Rattle.bounds.specs.Rounds.{Begun, Round, Changed}
use Rattle.bounds.proofs.Counts.{at_or_below}
use Rattle.bounds.proofs.Grounds.{AllGrounded}
use Rattle.bounds.proofs.Reaching.{reached_under, over_sources, reached_within, reached_size, reached_low}
use Rattle.bounds.proofs.Solutions.{moved}
use Rattle.bounds.proofs.Walks.{walked_longer}
use Rattle.bounds.proofs.Waning.{Waning, waning_none, waning_more}

-- each of the times came about by at most r bounds
abbrev pub Arrived : {S : Type 0} (m : Ghosts S) → ℕ → List (Bound m.Time) → m.Time → ℕ → Times m → Type 0
Arrived m n bs start r t = (x : ℕ) → x ≤ n → (o : Source) × Reached m bs n start o r x (t x)

-- r rounds, each of which changed a time, took the start to t
pub record Progress {S : Type 0} (m : Ghosts S) (n : ℕ) (bs : List (Bound m.Time)) (start : m.Time) (r : ℕ) (t : Times m) : Type 0 where
  pub origin : t n ≡ m.zero
  pub above : NowhereBefore m n start t
  pub arrived : Arrived m n bs start r t
  pub waning : (s : Times m) → Meets m bs s → Waning m bs (n + 1) r t s

module _ {S : Type 0} (m : Ghosts S) (laws : Laws m) (n : ℕ) (bs : List (Bound m.Time)) (grounded : AllGrounded m n bs) (start : m.Time) where
  pub progress_none : (t : Times m) → Begun m n start t → Progress m n bs start 0 t
  progress_none t begun = record {
    origin = begun.origin;
    above = λ x l. same m laws (sym (begun.devices x l));
    arrived = λ x l. ⊎_elim
        (λ (e : x ≡ n). (from_origin, subst (λ y. Reached m bs n start from_origin 0 y (t y)) (sym e) (subst (Reached m bs n start from_origin 0 n) (sym begun.origin) origin)))
        (λ b. (from_start, subst (Reached m bs n start from_start 0 x) (sym (begun.devices x b)) (device b)))
        (at_or_below x n (omega arith));
    waning = λ s meets. waning_none m bs (n + 1) t s;
  }

  module _ (r : ℕ) (t u : Times m) (round : Round m bs t u) (p : Progress m n bs start r t) where
    -- where the new times come from
    pub arrived_more : Arrived m n bs start (suc r) u
    arrived_more x l =
        ⊎_elim
        (λ e. let before = p.arrived x l in
        (before.0, subst (Reached m bs n start before.0 (suc r) x) (sym e) (stay before.1)))
        (λ c. let b : Bound m.Time = c.bound in
        let before = p.arrived b.from (grounded b c.has).from_in in
        let there : Reached m bs n start before.0 (suc r) b.at (asked m t b) = step b c.has before.1 in
        (before.0, subst (λ y. Reached m bs n start before.0 (suc r) y (u x)) (sym c.place) (subst (Reached m bs n start before.0 (suc r) b.at) (sym c.value) there)))
        (round.why x)

    pub progress_more : Changed m (n + 1) t u → NotAfter m (u n) m.zero → Progress m n bs start (suc r) u
    progress_more change down = record {
      origin = laws.antisymmetric _ _ down (along m laws p.origin refl (round.up n));
      above = λ x l. laws.transitive _ _ _ (p.above x l) (round.up x);
      arrived = arrived_more;
      waning = λ s meets. waning_more m laws n bs grounded t u s meets round r change (p.waning s meets);
    }

    -- a round that changes nothing
    pub settles : r ≤ n + 2 → ((x : ℕ) → x < n + 1 → NotAfter m (u x) (t x)) → Least m n bs start t
    settles early rest = record {
      solves = record {
        meets = λ b has. laws.transitive _ _ _ (round.held b has) (rest b.at (omega (arith, (grounded b has).at_in)));
        origin = p.origin;
      };
      above = p.above;
      least = λ s solves over x l. let from = p.arrived x (omega arith) in
          reached_under m laws n bs start s solves.meets (over_sources m laws n bs start s solves over from.0) from.1;
      reached = λ x l. let from = p.arrived x l in
          (from.0, reached_within m laws n bs start (n + 2) early from.1);
      small = λ x l. reached_size m laws n bs start grounded (m.size start) (omega arith) (reached_within m laws n bs start (n + 2) early (p.arrived x l).1);
    }

  -- what has arrived is small
  pub arrived_size : (r : ℕ) (t : Times m) (top : ℕ) → m.size start ≤ top → Arrived m n bs start r t → (x : ℕ) → x ≤ n → m.size (t x) ≤ top + r * largest
  arrived_size r t top small arrived x l = reached_size m laws n bs start grounded top small (arrived x l).1

  -- the rounds ran out
  pub runs_out : (r : ℕ) (t : Times m) → n + 1 < r → Progress m n bs start r t → NoTimes m n bs start
  runs_out r t late p =
      let unmet : (s : Times m) → Meets m bs s → ⊥ = λ s meets. omega (arith, (p.waning s meets).few) in
      record { above = λ s solves _. unmet s solves.meets; anywhere = λ _. unmet }

  -- from a low start nothing is reached at the origin that is past zero, where some times meet the bounds
  held_down : {r : ℕ} {v : m.Time} → r ≤ n + 2 → Low m largest (n + 2) start → (s : Times m) → Meets m bs s → (o : Source) → Reached m bs n start o r n v → NotAfter m v m.zero
  held_down {r} early low s meets from_start h =
      laws.transitive _ _ _ (reached_low m laws n bs start grounded (n + 2) low h)
      (laws.transitive _ _ _ (walked_longer m laws start low.stride r (n + 2) low.rises early) (weaken m laws _ _ low.ends))
  held_down early low s meets from_origin h =
      let back : gap m (s n) (s n) ≡ m.zero = laws.inverse (s n) in
      along m laws refl back (reached_under m laws n bs start (λ x. gap m (s x) (s n)) (moved m laws bs s (m.opposed (s n)) meets) (same m laws (sym back)) h)

  -- a round took the origin past zero
  pub lifts : (r : ℕ) (u : Times m) → r ≤ n + 2 → Arrived m n bs start r u → Before m m.zero (u n) → NoTimes m n bs start
  lifts r u early arrived past =
      let from = arrived n (omega arith) in
      record {
        above = λ s solves over. past (along m laws refl solves.origin (reached_under m laws n bs start s solves.meets (over_sources m laws n bs start s solves over from.0) from.1));
        anywhere = λ low s meets. past (held_down early low s meets from.0 from.1);
      }
