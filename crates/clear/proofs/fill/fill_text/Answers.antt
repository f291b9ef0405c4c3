use Rattle.std.proofs.Common.{◌≡◌, ◌-◌, subst, arith}
use Rattle.pairs.proofs.Tables.{bounded_changed}
use Rattle.clear.proofs.TextNodes.{Chained, fills_text}
use Rattle.clear.proofs.fill.fill_text.Goals as goal

pub returns : goal.returns
returns c =
    let stands = c.in_ok-end.ensures in
    let last : c.loop-place.place ≡ c.in_ok-end.end - 1 = omega (arith, c.loop-place.auto.place-end (omega (arith, stands.less))) in
    record {
      fills = fills_text stands (subst (λ k. Chained c.args.row.now.bytes.now c.args.table.now c.loop-place.table c.args.at k) last c.loop-place.invariant.0) c.put_step-2.ensures;
      bounded = bounded_changed c.put_step-2.ensures (omega arith) c.loop-place.invariant.1;
    }
