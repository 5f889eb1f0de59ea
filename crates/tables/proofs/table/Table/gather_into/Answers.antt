use Rattle.std.proofs.Common.{◌≡◌, ◌++◌, length, get_or, None, sym, ap, ◌∙◌, arith, length-append}
use Rattle.tables.specs.Gathering.{edges_of_record, edges_under}
use Rattle.tables.proofs.Edges.{few_under, gathered_skip, gathered_more}
use Rattle.tables.proofs.table.Table.gather_into.Goals as goal
use Rattle.tables.proofs.table.Table.gather_into.Goals.{then-chosen, else-chosen}

pub loop-number-preserved : goal.loop-number-preserved
loop-number-preserved c =
    let n = c.args.self.now.devices in
    let records = c.args.self.now.lines in
    let picked = c.args.choice.now.picked in
    let i = c.loop-number.number in
    elim c.if-chosen.branch [
      | then-chosen w ↦
          let wrote : w.gather_one.new.edges.items ≡ c.loop-number.edges.items ++ edges_of_record n i (get_or c.lines-line-items.result.now i None) = w.gather_one.ensures in
          let all : c.if-chosen.edges.items ≡ c.loop-number.edges.items ++ edges_under n records i = ap (λ e. e.items) w.edges-is ∙ wrote ∙ ap (λ ls. c.loop-number.edges.items ++ edges_of_record n i (get_or ls i None)) c.lines-line-items.ensures in (
            omega (arith, ap length all, length-append c.loop-number.edges.items (edges_under n records i), few_under n records i, c.loop-number.invariant.0),
            rw all (gathered_more n records picked i _ (sym c.has-chosen.ensures ∙ w.if-chosen.true) c.loop-number.invariant.1),
          )
      | else-chosen w ↦ (
        omega (arith, ap (λ e. length e.items) w.edges-is, c.loop-number.invariant.0),
        rw w.edges-is (gathered_skip n records picked i _ (sym c.has-chosen.ensures ∙ w.if-chosen.false) c.loop-number.invariant.1),
      )
    ]
