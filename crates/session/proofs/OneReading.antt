-- Whichever bytes a session holds, it has exactly one reading.
use Rattle.std.proofs.Common.{◌≡◌, ℕ, zero, suc, ◌-◌, ◌≤◌, List, [], ◌∷◌, length, Some, None, Option, sym, refl, ap, subst, ⊎_elim, arith}
use Rattle.lines.specs.declared.call.Call.{Call}
use Rattle.session.specs.declared.fault.Fault.{Fault}
use Rattle.session.specs.Commands.{behind}
use Rattle.session.specs.Readings.{OneReading, Reads, ReadsFrom, command, opened, over, stopped, unopened}
use Rattle.session.proofs.HeadingFaults.{opened_or_not, opened_unopenable, unopenable_one}
use Rattle.session.proofs.Spelling.{closes_stops, found, spelt_closes, spelt_one, spelt_stops, stops_one}

module _ (bs : List ℕ) where
  one_from : {p : ℕ} {cs ds : List Call} {f g : Option Fault} → ReadsFrom bs p cs f → ReadsFrom bs p ds g → (cs ≡ ds) × (f ≡ g)
  one_from {p} (command {c = c} {cs = cs} s r) (command {c = d} {cs = ds} {f = g} t q) =
      let e = spelt_one bs p s t in
      let i = one_from r (subst (λ (b : Call). ReadsFrom bs (behind p b) ds g) (sym e) q) in
      let h = i.0 in
      (cc, i.1)
  one_from {p} (command {c = c} s r) (over z) = absurd (spelt_closes bs p c s z)
  one_from {p} (command {c = c} s r) (stopped {f = g} t) = absurd (spelt_stops bs p c g s t)
  one_from {p} (over z) (command {c = c} s r) = absurd (spelt_closes bs p c s z)
  one_from {p} (over z) (over y) = (refl, refl)
  one_from {p} (over z) (stopped {f = g} t) = absurd (closes_stops bs p g z t)
  one_from {p} (stopped {f = f} t) (command {c = c} s r) = absurd (spelt_stops bs p c f s t)
  one_from {p} (stopped {f = f} t) (over z) = absurd (closes_stops bs p f z t)
  one_from {p} (stopped {f = f} t) (stopped {f = g} u) = (refl, ap Some (stops_one bs p f g t u))

  one_whole : {cs ds : List Call} {f g : Option Fault} → Reads bs cs f → Reads bs ds g → (cs ≡ ds) × (f ≡ g)
  one_whole (opened o r) (opened h s) = one_from r s
  one_whole (opened o r) (unopened {f = g} u) = absurd (opened_unopenable bs g o u)
  one_whole (unopened {f = f} u) (opened o r) = absurd (opened_unopenable bs f o u)
  one_whole (unopened {f = f} u) (unopened {f = g} v) = (refl, ap Some (unopenable_one bs f g u v))

  abbrev From : ℕ → Type 0
  From p = (cs : List Call) × (f : Option Fault) × ReadsFrom bs p cs f

  -- each command leaves fewer bytes to read
  from : (fuel p : ℕ) → length bs - p ≤ fuel → From p
  from zero p h =
      ⊎_elim (λ s. absurd (omega (arith, s.1.inside)))
      (⊎_elim (λ z. ([], None, over z)) (λ t. ([], Some t.0, stopped t.1)))
      (found bs p)
  from (suc fuel) p h =
      ⊎_elim
      (λ s. let rest = from fuel (behind p s.0) (omega (arith, s.1.inside)) in (s.0 ∷ rest.0, rest.1, command s.1 rest.2))
      (⊎_elim (λ z. ([], None, over z)) (λ t. ([], Some t.0, stopped t.1)))
      (found bs p)

  whole : (cs : List Call) × (f : Option Fault) × Reads bs cs f
  whole =
      ⊎_elim (λ o. let r = from (length bs) 6 (omega arith) in (r.0, r.1, opened o r.2))
      (λ u. ([], Some u.0, unopened u.1))
      (opened_or_not bs)

pub one_reading : OneReading
one_reading bs =
    let w = whole bs in
    record { commands = w.0; fault = w.1; reads = w.2; only = λ cs f r. one_whole bs r w.2 }
