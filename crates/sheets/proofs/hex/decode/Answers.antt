use Rattle.std.proofs.Common.{get_or, refl, arith, below_more}
use Rattle.sheets.proofs.Triples.{spelt_in_part, spelt_in_text}
use Rattle.sheets.proofs.hex.decode.Goals as goal

pub returns-in_default : goal.returns-in_default
returns-in_default c out d =
    let k = c.loop-triple.triple-index in
    let b = get_or out k 0 in
    c.in_default.ensures b
    (rw c.as_chunks.ensures.front (spelt_in_part _ c.args.text.now k b (omega (arith, c.as_chunks.ensures.front_len)) (d.bytes k (omega (arith, d.whole, c.as_chunks.ensures.front_len)))))

pub loop-triple-preserved : goal.loop-triple-preserved
loop-triple-preserved c =
    let len = c.loop-triple.invariant.0 in
    let pushed = c.in_ok-push.ensures in
    let spelt = rw c.as_chunks.ensures.front at c.in-Some.ensures in (
      omega (arith, pushed.len),
      below_more _ _
          (λ k h. rw (pushed.by_index.0 k 0 (omega (arith, len))) (c.loop-triple.invariant.1 k h))
          (rw (rw len at (pushed.by_index.1 0 refl)) (spelt_in_text _ c.args.text.now c.loop-triple.triple-index c.in-Some.byte (omega (arith, c.as_chunks.ensures.front_len)) spelt)),
    )
