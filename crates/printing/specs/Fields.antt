-- The fields of a printed line: each is a space and a text.
use Rattle.std.specs.Prelude.{ℕ, List, ◌∷◌, Some, None, codes, decimal, Option}
use Rattle.std.specs.List.{flat_map}
use Rattle.scales.specs.declared.sums.OrderedSums.{Ghosts}

abbrev pub field : List ℕ → List ℕ
field text = 32 ∷ text

abbrev pub number_field : ℕ → List ℕ
number_field k = field (decimal k)

module _ {S : Type 0} (m : Ghosts S) where
  abbrev pub time_field : S → List ℕ
  time_field v = field (m.printed (m.means v))

  abbrev pub time_fields : List S → List ℕ
  time_fields times = flat_map time_field times

  -- the end of a window, or the word none
  abbrev pub end_field : Option S → List ℕ
  end_field None = codes " none"
  end_field (Some v) = time_field v
