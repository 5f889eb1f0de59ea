-- The records of a book: an empty table is sound, and what the test of a line says.
use Rattle.std.proofs.Common.{◌≡◌, ℕ, zero, suc, ◌<◌, true, false, not, ◌&&◌, T, eqb, ltb, ◌⊎◌, List, length, get_or, replicate, pos, negsuc, None, Option, sym, refl, ap, ◌∙◌, subst, ⊎_elim, arith}
use lib.Signed.{le_z, le_z_yes}
use Rattle.std.proofs.lemmas.Bool.{and_parts, ltb-true, eq-eqb, not-true, cases_lt}
use Rattle.std.proofs.lemmas.List.{get_or_past}
use Rattle.lines.specs.Operators.{strict}
use Rattle.lines.specs.Proper.{Known, Within, Same, Proper}
use Rattle.lines.specs.declared.line.Line.{Line}
use Rattle.lines.specs.declared.line.Right.{Right}
use Rattle.lines.specs.declared.line.Right.TheVariants.{Device, Constant}
use Rattle.lines.specs.declared.operator.Operator.{Operator}
use Rattle.lines.specs.declared.operator.Operator.TheVariants.{Before, After}
use Rattle.tables.specs.Tables.{Shows, admits, proper, reaches, is_device}

pub none_everywhere : (m k : ℕ) → ◌≡◌ {A = Option Line} (get_or (replicate m None) k None) None
none_everywhere zero k = refl
none_everywhere (suc m) zero = refl
none_everywhere (suc m) (suc k) = none_everywhere m k

pub empty_sound : (n m k : ℕ) → admits n (get_or (replicate m None) k None) ≡ true
empty_sound n m k = ap (admits n) (none_everywhere m k)

-- what the test of a line says
reaches_says : (n : ℕ) (r : Right) → reaches n r ≡ true → Known n r × Within r
reaches_says n (Device y) e = (ltb-true y n e, tt)
reaches_says n (Constant c) e =
    let both = and_parts (le_z (negsuc 999999) c) (le_z c (pos 1000000)) e in
    (tt, (le_z_yes (subst T (sym both.0) tt), le_z_yes (subst T (sym both.1) tt)))

apart_says : (x : ℕ) (op : Operator) (r : Right) → (strict op && is_device x r) ≡ false → (op ≡ Before) ⊎ (op ≡ After) → Same x r → ⊥
apart_says x op (Device y) e o s =
    let same : eqb x y ≡ true = eq-eqb x y s in
    ⊎_elim
    (λ (b : op ≡ Before). let p : strict op ≡ true = ap strict b in let z : ◌≡◌ {A = ℕ} 0 1 = cc in omega arith)
    (λ (b : op ≡ After). let p : strict op ≡ true = ap strict b in let z : ◌≡◌ {A = ℕ} 0 1 = cc in omega arith)
    o
apart_says x op (Constant c) e o s = s

proper_says : (n : ℕ) (l : Line) → proper n l ≡ true → Proper n l
proper_says n l e =
    let one = and_parts (ltb l.x n) (reaches n l.right && not (strict l.op && is_device l.x l.right)) e in
    let two = and_parts (reaches n l.right) (not (strict l.op && is_device l.x l.right)) one.1 in
    let right = reaches_says n l.right two.0 in
    record {
      limited = record { left = ltb-true l.x n one.0; right = right.0; constant = right.1 };
      apart = apart_says l.x l.op l.right (not-true (strict l.op && is_device l.x l.right) two.1);
    }

-- every line that a sound table shows is one that its book may hold
pub shown_proper : (n : ℕ) (records : List (Option Line)) → ((k : ℕ) → admits n (get_or records k None) ≡ true) → (k : ℕ) (l : Line) → Shows records k l → Proper n l
shown_proper n records sound k l shows = proper_says n l (sym (ap (admits n) shows) ∙ sound k)

-- a line stands under a number within the table
pub shown_below : (records : List (Option Line)) (k : ℕ) (l : Line) → Shows records k l → k < length records
shown_below records k l shows =
    ⊎_elim
    (λ lt. lt)
    (λ past. absurd (let e = get_or_past records k None past in let z : ◌≡◌ {A = ℕ} 0 1 = cc in omega arith))
    (cases_lt k (length records))
