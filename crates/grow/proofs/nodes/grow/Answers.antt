use Rattle.std.proofs.Common.{◌≡◌, ◌*◌, length, drop, rules, arith}
use Rattle.grow.proofs.EachKind.{bare_zeros, tree_grown}
use Rattle.grow.proofs.nodes.grow.Goals as goal

pub returns : goal.returns
returns c =
    let size = length c.args.row.now.bytes.now in
    let long : length c.fill.new.self ≡ 4 * size = search (rules, arith) in
    tree_grown (bare_zeros c.fill.new.self (drop (4 * size) c.args.tree.now) long (λ k h. search rules)) c.grow_view.ensures
