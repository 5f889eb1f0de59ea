-- What is said of a set of lines is said of any other with the same lines.
use Rattle.std.proofs.Common.{ℕ, List, Some, None, Option, inl, inr, ⊎_elim}
use Rattle.lines.specs.Keeping.{Timetable, KeepsAll}
use Rattle.lines.specs.Quarrels.{Sheet, Quarrel, standing}
use Rattle.lines.specs.Timetables.{Clashes, First, Earliest, Latest, Follows, and_also}
use Rattle.lines.specs.declared.line.Line.{Line}
use Rattle.scales.specs.declared.sums.OrderedSums.{Ghosts}

-- one set of lines lies within another
abbrev pub Within : (Line → Type 0) → (Line → Type 0) → Type 0
Within a b = (l : Line) → a l → b l

-- two sheets show the same lines under the same numbers
abbrev pub SameSheet : Sheet → Sheet → Type 0
SameSheet a b = (k : ℕ) (l : Line) → (a k l → b k l) × (b k l → a k l)

pub standing_within : (a b : Sheet) → SameSheet a b → Within (standing a) (standing b)
standing_within a b same l s = (s.0, (same s.0 l).0 s.1)

pub swap_sheets : (a b : Sheet) → SameSheet a b → SameSheet b a
swap_sheets a b same k l = ((same k l).1, (same k l).0)

pub also_within : (a b : Line → Type 0) (o : Line) → Within a b → Within (and_also a o) (and_also b o)
also_within a b o w l = ⊎_elim (λ h. inl (w l h)) inr

module _ {S : Type 0} (m : Ghosts S) where
  pub keeps_within : (a b : Line → Type 0) (t : Timetable m) → Within a b → KeepsAll m t b → KeepsAll m t a
  keeps_within a b t w keeps l in' = keeps l (w l in')

  pub clashes_within : (a b : Line → Type 0) → Within a b → Clashes m a → Clashes m b
  clashes_within a b w clash t keeps = clash t (keeps_within a b t w keeps)

  module _ (a b : Line → Type 0) (to : Within a b) (from : Within b a) where
    pub first_same : (n : ℕ) (floor : m.Time) (t : Timetable m) → First m n floor a t → First m n floor b t
    first_same n floor t f = record { keeps = keeps_within b a t from f.keeps; above = f.above; least = λ s keeps. f.least s (keeps_within a b s to keeps) }

    pub earliest_same : (x : ℕ) (end : Option S) → Earliest m a x end → Earliest m b x end
    earliest_same x (Some v) e = ((e.0.0, keeps_within b a e.0.0 from e.0.1, e.0.2), λ t keeps. e.1 t (keeps_within a b t to keeps))
    earliest_same x None e = λ t keeps. let s = e t (keeps_within a b t to keeps) in (s.0, keeps_within b a s.0 from s.1, s.2)

    pub latest_same : (x : ℕ) (end : Option S) → Latest m a x end → Latest m b x end
    latest_same x (Some v) e = ((e.0.0, keeps_within b a e.0.0 from e.0.1, e.0.2), λ t keeps. e.1 t (keeps_within a b t to keeps))
    latest_same x None e = λ t keeps. let s = e t (keeps_within a b t to keeps) in (s.0, keeps_within b a s.0 from s.1, s.2)

    pub follows_same : (l : Line) → Follows m a l → Follows m b l
    follows_same l f t keeps = f t (keeps_within a b t to keeps)

  pub quarrel_same : (a b : Sheet) (ks : List ℕ) → SameSheet a b → Quarrel m a ks → Quarrel m b ks
  quarrel_same a b ks same q = record {
    rising = q.rising;
    stand = λ k has. let s = q.stand k has in (s.0, (same k s.0).0 s.1);
    clash = clashes_within _ _ (λ l u. (u.0, u.1, (same u.0 l).0 u.2)) q.clash;
    minimal = λ k has. let s = q.minimal k has in (s.0, keeps_within _ _ s.0 (λ l u. (u.0, u.1, (same u.0 l).1 u.2)) s.1);
  }
