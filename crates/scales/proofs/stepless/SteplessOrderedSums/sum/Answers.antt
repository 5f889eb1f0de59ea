use Rattle.std.proofs.Common.{◌+ℤ◌, w64, SFits, rules}
use Rattle.std.proofs.lemmas.Int.{to_z-of_z}
use Rattle.scales.proofs.stepless.SteplessOrderedSums.sum.Goals as goal

pub returns : goal.returns
returns c =
    let a : SFits w64 c.args.self.ms = search rules in
    let b : SFits w64 c.args.other.ms = search rules in
    let d : SFits w64 c.args.self.steps = search rules in
    let e : SFits w64 c.args.other.steps = search rules in
    let f : SFits w64 (c.args.self.ms +ℤ c.args.other.ms) = search rules in
    let g : SFits w64 (c.args.self.steps +ℤ c.args.other.steps) = search rules in
    simp to_z-of_z
