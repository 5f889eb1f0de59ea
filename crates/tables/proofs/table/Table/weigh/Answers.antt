use Rattle.std.proofs.Common.{◌≡◌, ℕ, ◌≢◌, get_or, None, sym, ap, ◌∙◌, subst, arith, below_more}
use Rattle.lines.specs.Bounding.{Weighs}
use Rattle.lines.specs.declared.line.Line.{Line}
use Rattle.bounds.specs.Bounds.{times_of}
use Rattle.bounds.proofs.Rows.{times_set_same, times_set_other}
use Rattle.tables.proofs.Records.{shown_below}
use Rattle.tables.specs.Tables.{Shows}
use Rattle.tables.proofs.table.Table.weigh.Goals as goal
use Rattle.tables.proofs.table.Table.weigh.Goals.{in-Some, in_default}

pub loop-number-preserved : goal.loop-number-preserved
loop-number-preserved g c =
    let m = g.S.OrderedSums in
    let records = c.args.self.now.lines in
    let before = c.loop-number.weights in
    let i = c.loop-number.number in
    let same = ap (λ ls. get_or ls i None) (sym c.lines-line-items.ensures) in
    elim c.match-line.branch [
      | in-Some w ↦
          let stands : Shows records i w.in-Some.line = same ∙ w.in-Some.is in
          let other : (k : ℕ) → k ≢ i → times_of m c.match-line.weights k ≡ times_of m before k = λ k ne. ap (λ ws. times_of m ws k) w.weights-is ∙ times_set_other m before i k w.weight.result ne in (
            λ k none.
                let ne : k ≢ i = λ at. let e : get_or records i None ≡ None = subst (λ j. get_or records j None ≡ None) at none in let z : ◌≡◌ {A = ℕ} 0 1 = cc in omega arith in
                other k ne ∙ c.loop-number.invariant.0 k none,
            below_more _ _
                (λ k h l shows. let ne : k ≢ i = omega arith in subst (Weighs m l) (sym (other k ne)) (c.loop-number.invariant.1 k h l shows))
                (λ l shows.
                let is : w.in-Some.line ≡ l = cc in
                subst (Weighs m l) (sym (ap (λ ws. times_of m ws i) w.weights-is ∙ times_set_same m before i w.weight.result (omega (arith, c.loop-number.auto.weights, c.requires, c.loop-number-test.true)))) (subst (λ (k : Line). Weighs m k (m.means w.weight.result)) is w.weight.ensures)),
          )
      | in_default w ↦ (
        λ k none. ap (λ ws. times_of m ws k) w.weights-is ∙ c.loop-number.invariant.0 k none,
        rw w.weights-is (below_more _ _ c.loop-number.invariant.1 (λ l shows. absurd (let e : get_or records i None ≡ None = same ∙ w.in_default.is in let z : ◌≡◌ {A = ℕ} 0 1 = cc in omega arith))),
      )
    ]

pub returns : goal.returns
returns g c =
    record {
      weighed = λ k l shows. c.loop-number.invariant.1 k (omega (arith, c.loop-number-test.false, shown_below c.args.self.now.lines k l shows, c.args.self.now.full)) l shows;
      others = c.loop-number.invariant.0;
    }
