use Rattle.std.proofs.Common.{◌≡◌, ◌-◌, subst, arith}
use Rattle.grow.proofs.Texts.{Chained, text_grows}
use Rattle.grow.proofs.nodes.grow_text.Goals as goal

pub returns : goal.returns
returns c =
    let stands = c.in-Some.ensures in
    let last : c.loop-place.place ≡ c.in-Some.end - 1 = omega (arith, c.loop-place.auto.place-end (omega (arith, stands.less))) in
    text_grows stands (subst (λ k. Chained c.args.row.now.bytes.now c.args.tree.now c.loop-place.tree c.args.at c.args.up k c.loop-place.above) last c.loop-place.invariant) c.put_node-2.ensures
