use Rattle.std.proofs.Common.{◌≡◌, ℕ, ◌<◌, ◌≤◌, List, ◌++◌, map, get_or, take}
use Rattle.engine.specs.Books.{devices_of, sheet_of}
use Rattle.lives.specs.Changes.{SameLengths}
use Rattle.lives.specs.Lives.{Lawful, ShowsAll}
use Rattle.lives.specs.Standing.{Made, Stands, made}
use Rattle.lives.specs.declared.steps.Step.{Step}
use Rattle.lives.proofs.life.go_on.Given as goal

abbrev pub invariant-loop-step : goal.invariant-loop-step
invariant-loop-step g l =
    (devices_of l.book ≡ devices_of l.initial.book)
    × ((past : List (Made g.row.S.Denot)) → ShowsAll (sheet_of l.initial.book) past → ShowsAll (sheet_of l.book) (past ++ map made (take l.step-index l.steps)))
    × ((past : List (Made g.row.S.Denot)) → ShowsAll (sheet_of l.initial.book) past → (i : ℕ) → i < l.step-index → (d : Step g.row.S.Denot) → Lawful g.S.OrderedSums (devices_of l.initial.book) (Stands (past ++ map made (take i l.steps))) (get_or l.initial.steps i d) (get_or l.steps i d))
    × ((i : ℕ) (d : Step g.row.S.Denot) → l.step-index ≤ i → get_or l.steps i d ≡ get_or l.initial.steps i d)
    × ((i : ℕ) → i < l.step-index → (d : Step g.row.S.Denot) → SameLengths (get_or l.initial.steps i d) (get_or l.steps i d))
