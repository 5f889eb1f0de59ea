use Rattle.std.proofs.Common.{ℕ, ◌<◌, ◌≤◌, List, Some, None, Option, MatchOption, rules, tests, arith}
use Rattle.std.proofs.lemmas.Iterator.{first_from_Range}
use Rattle.session.specs.Headings.{FirstWrong, RightAt, RightUpTo, WrongAt}
use Rattle.session.proofs.heading.first_wrong.Goals as goal

-- what a search below n finds is the first
found_first : (bs : List ℕ) (r : Option ℕ)
    → MatchOption r ((k : ℕ) → 0 ≤ k → k < 6 → RightAt bs k) (λ i. (0 ≤ i) × (i < 6) × WrongAt bs i × ((k : ℕ) → 0 ≤ k → k < i → RightAt bs k))
    → MatchOption r (RightUpTo bs 6) (FirstWrong bs)
found_first bs None h = λ i below. h i (omega arith) below
found_first bs (Some i) h = record { inside = h.1; before = λ k below. h.3 k (omega arith) below; wrong = h.2 }

pub returns : goal.returns
returns c =
    let bs = c.args.bytes.now in
    let first = first_from_Range _ _ _ c.find.result (WrongAt bs) (RightAt bs) c.find.ensures.ran (λ x q k. search (rules, tests)) (λ x q k. search (rules, tests)) in
    found_first bs c.find.result first
