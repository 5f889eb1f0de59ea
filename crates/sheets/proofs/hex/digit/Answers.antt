use Rattle.std.proofs.Common.{◌≡◌, ◌<◌, length, MatchOption, rules, tests, arith}
use Rattle.std.proofs.lemmas.Iterator.{IsFirst-from_position, YieldsList-from_slice}
use Rattle.std.proofs.lemmas.Option.{MatchOption-at_none, MatchOption-at_some}
use Rattle.std.specs.List.{AllWithin, HoldsAt}
use Rattle.sheets.specs.Hex.{digits}
use Rattle.sheets.proofs.hex.digit.Goals as goal
use Rattle.sheets.proofs.hex.digit.Goals.{After-position}

-- the first digit that is the byte stands at the place that was found, or none is
first : (c : After-position) → let byte = c.args.byte in MatchOption c.position.result (AllWithin (λ d. d ≡ byte → ⊥) digits 0 (length digits))
    (λ i. (i < length digits) × HoldsAt (λ d. d ≡ byte) digits i × AllWithin (λ d. d ≡ byte → ⊥) digits 0 i)
first c =
    IsFirst-from_position _ _ c.position.result (λ d. d ≡ c.args.byte) (λ d. d ≡ c.args.byte → ⊥) c.position.ensures.ran (YieldsList-from_slice digits cc)
    (λ x q k. search (rules, tests)) (λ x q k. search (rules, tests))

pub returns : goal.returns
returns c = let found = MatchOption-at_some _ _ _ c.in_ok-value.was (first (goal.at.returns c).After-position) in (found.0, found.1 0)

pub returns-in_err-value : goal.returns-in_err-value
returns-in_err-value c =
    rw c.from_residual.ensures
    (λ v worth. MatchOption-at_none _ _ c.in_err-value.was (first (goal.at.returns-in_err-value c).After-position) v 0 (omega arith) worth.0 worth.1)
