-- What a settled sheet is answered with, and what is left in the buffers.
use Rattle.std.specs.Prelude.{◌≡◌, ℕ, List, length, take, drop}
use Rattle.lines.specs.Quarrels.{Sheet, Quarrel, standing}
use Rattle.lines.specs.Timetables.{First}
use Rattle.scales.specs.declared.sums.OrderedSums.{Ghosts}
use Rattle.bounds.specs.Bounds.{times_of}
use Rattle.verdicts.specs.Verdicts.{Printable, floor}
use Rattle.verdicts.specs.declared.settling.Settled.{Settled}
use Rattle.verdicts.specs.declared.settling.Settled.TheVariants.{Times, Clash}

module _ {S : Type 0} (m : Ghosts S) where
  -- the first timetable of n devices at the front of times, or a quarrel at the front of names
  abbrev pub SettledAs : ℕ → Sheet → List S → List ℕ → Settled → List S → List ℕ → Type 0
  SettledAs n sheet times names Times times' names' =
      First m n (floor m) (standing sheet) (times_of m times') × Printable m n (times_of m times') × (drop n times' ≡ drop n times) × (names' ≡ names)
  SettledAs n sheet times names (Clash count) times' names' =
      Quarrel m sheet (take count names') × (length (take count names') ≡ count) × (drop count names' ≡ drop count names) × (times' ≡ times)
