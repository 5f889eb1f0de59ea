-- The first times of a buffer, as a printer takes them.
use Rattle.std.proofs.Common.{ℕ, ◌<◌, ◌≤◌, List, map, length, get_or, take, sym, ap, ◌∙◌, subst, arith, ◌≡◌}
use Rattle.std.proofs.lemmas.List.{get_or-take, length-take-le, take-map}
use Rattle.bounds.specs.Bounds.{times_of}
use Rattle.scales.specs.declared.sums.OrderedSums.{Ghosts}
use Rattle.verdicts.specs.Verdicts.{Printable}
use Rattle.printing.specs.Shown.{Timed}

module _ {S : Type 0} (m : Ghosts S) where
  front_times : (n : ℕ) (xs : List S) (x : ℕ) → x < n → times_of m (take n xs) x ≡ times_of m xs x
  front_times n xs x h = ap (λ ts. get_or ts x m.zero) (sym (take-map m.means n xs)) ∙ get_or-take n (map m.means xs) x m.zero h

  pub front_printable : (n : ℕ) (xs : List S) → Timed m n xs → Printable m (length (take n xs)) (times_of m (take n xs))
  front_printable n xs t x h =
      let within : x < n = omega (arith, h, length-take-le n xs t.there) in
      subst (λ v. m.size v ≤ 1000000000000) (sym (front_times n xs x within)) (t.printable x within)
