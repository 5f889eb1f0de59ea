-- The numbers of the refusals that each call checks, in the order of its checks.
use Rattle.std.specs.Prelude.{◌≡◌, ℕ, List, [], ◌∷◌, map, Option}
use Rattle.lines.specs.declared.asked.Asked.{Asked}
use Rattle.lines.specs.declared.line.Line.{Line}
use Rattle.tables.specs.Tables.{Shows}
use Rattle.engine.specs.Checks.{Check, begin_checks, enter_checks, follows_checks, settle_checks, strike_checks, window_checks}
use Rattle.engine.specs.Refusals.{number_of}

abbrev numbers : List Check → List ℕ
numbers cs = map (λ c. number_of c.refusal) cs

pub record Ordered : Type 0 where
  pub begin : (n : ℕ) → numbers (begin_checks n) ≡ 2 ∷ []
  pub enter : (n : ℕ) (records : List (Option Line)) (k : ℕ) (a : Asked) → numbers (enter_checks n (Shows records) k a) ≡ 8 ∷ 5 ∷ 6 ∷ 7 ∷ 9 ∷ 21 ∷ []
  pub strike : (records : List (Option Line)) (k : ℕ) → numbers (strike_checks (Shows records) k) ≡ 8 ∷ 22 ∷ []
  pub settle : (n times names work : ℕ) → numbers (settle_checks n times names work) ≡ 10 ∷ []
  pub window : (n x work : ℕ) → numbers (window_checks n x work (Unit {0})) ≡ 6 ∷ 10 ∷ 23 ∷ []
  pub follows : (n : ℕ) (a : Asked) (times work : ℕ) → numbers (follows_checks n a times work) ≡ 5 ∷ 6 ∷ 7 ∷ 10 ∷ []
