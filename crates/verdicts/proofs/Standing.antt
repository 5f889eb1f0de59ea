-- What a verdict on all standing lines, and a reduced choice of them, say of the sheet.
use Rattle.std.proofs.Common.{◌≡◌, ℕ, ◌<◌, Bool, true, List, map, length, get_or, take, is_some, Some, None, Option, sym, refl, ap, ◌∙◌, subst, inl, ⊎_elim, arith}
use Rattle.std.proofs.lemmas.List.{get_or-take, take-map}
use Rattle.std.proofs.lemmas.Bool.{false≢true}
use Rattle.lines.specs.Keeping.{Timetable}
use Rattle.lines.specs.Proper.{Limited}
use Rattle.lines.specs.Quarrels.{Quarrel, standing}
use Rattle.lines.specs.Timetables.{First}
use Rattle.lines.specs.declared.line.Line.{Line}
use Rattle.scales.specs.declared.sums.OrderedSums.{Ghosts}
use Rattle.scales.specs.Order.{NotAfter}
use Rattle.bounds.specs.Bounds.{times_of}
use Rattle.bounds.specs.declared.edge.Edge.{Edge}
use Rattle.tables.specs.Naming.{Named}
use Rattle.verdicts.specs.Choosing.{Reduced}
use Rattle.verdicts.specs.Covering.{Covers}
use Rattle.tables.specs.Gathering.{Picked}
use Rattle.tables.specs.Tables.{Shows}
use Rattle.verdicts.specs.Verdicts.{chosen_lines}
use Rattle.verdicts.proofs.Chosen.{none_some}
use Rattle.verdicts.proofs.Covering.{same_keeps}
use Rattle.tables.proofs.Records.{shown_below}
use Rattle.verdicts.proofs.Reducing.{chosen_with}

-- a record that is there is some line
some_line : (o : Option Line) → is_some o ≡ true → (l : Line) × (o ≡ Some l)
some_line None e = absurd (false≢true e)
some_line (Some l) e = (l, refl)

module _ (records : List (Option Line)) (picked : List Bool) (all : Picked records picked) where
  pub standing_chosen : (l : Line) → standing (Shows records) l → chosen_lines records picked None l
  standing_chosen l s = inl (s.0, all s.0 ∙ ap is_some s.1, s.1)

  pub chosen_standing : (l : Line) → chosen_lines records picked None l → standing (Shows records) l
  chosen_standing l = ⊎_elim (λ c. (c.0, c.2)) (λ no'. absurd (none_some l no'))

module _ {S : Type 0} (m : Ghosts S) where
  -- edges that cover all chosen lines cover the standing ones
  pub covers_standing : (n : ℕ) (weights : List S) (es : List Edge) (records : List (Option Line)) (picked : List Bool) → Picked records picked → Covers m n weights es (chosen_lines records picked None) → Covers m n weights es (standing (Shows records))
  covers_standing n weights es records picked all covers = record {
    sound = λ e has. let s = covers.sound e has in (s.0, s.1, chosen_standing records picked all s.0 s.2, s.3, s.4, s.5);
    complete = λ l in'. covers.complete l (standing_chosen records picked all l in');
    limited = λ l in'. covers.limited l (standing_chosen records picked all l in');
  }

  -- only the times of the devices matter
  pub first_front : (n : ℕ) (floor : m.Time) (lines : Line → Type 0) (s t : Timetable m) → ((l : Line) → lines l → Limited n l) → ((x : ℕ) → x < n → s x ≡ t x) → First m n floor lines s → First m n floor lines t
  first_front n floor lines s t lim same f = record {
    keeps = λ l in'. same_keeps m n l (lim l in') s t same (f.keeps l in');
    above = λ x h. subst (NotAfter m floor) (same x h) (f.above x h);
    least = λ u keeps above x h. subst (λ v. NotAfter m v (u x)) (same x h) (f.least u keeps above x h);
  }

  -- rows with the same front have the same times there
  pub times_front : (n : ℕ) (a b : List S) → take n a ≡ take n b → (x : ℕ) → x < n → times_of m a x ≡ times_of m b x
  times_front n a b e x h =
      sym (get_or-take n (map m.means a) x m.zero h)
      ∙ ap (λ ts. get_or ts x m.zero) (take-map m.means n a ∙ ap (map m.means) e ∙ sym (take-map m.means n b))
      ∙ get_or-take n (map m.means b) x m.zero h

  -- the numbers of a reduced choice are a quarrel
  pub quarrel : (records : List (Option Line)) (before after : List Bool) (ks : List ℕ) → Picked records before → Reduced m records before after 400 → Named after 400 ks → length records ≡ 400 → Quarrel m (Shows records) ks
  quarrel records before after ks all r n full = record {
    rising = n.rising;
    stand = λ k has. some_line (get_or records k None) (sym (all k) ∙ r.within k (n.sound k has).1);
    clash = λ t keeps. r.clash t (λ l. ⊎_elim (λ c. keeps l (c.0, n.complete c.0 (omega (arith, shown_below records c.0 l c.2)) c.1, c.2)) (λ no'. absurd (none_some l no')));
    minimal = λ k has.
        let s = n.sound k has in
        let kept = r.needed k s.0 s.1 in
        (kept.0, λ l c. kept.1 l (inl (c.0, chosen_with after k c.0 c.1.1 (n.sound c.0 c.1.0).1, c.2)));
  }
