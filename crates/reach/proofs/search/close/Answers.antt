use Rattle.std.proofs.Common.{arith}
use Rattle.reach.proofs.Advances.{advances_none, advances_then, advances_few, closed_end}
use Rattle.reach.proofs.search.close.Goals as goal

pub loop-node-init : goal.loop-node-init
loop-node-init g c = advances_none _ _

pub overflow_add-visits : goal.overflow_add-visits
overflow_add-visits g c = let few = advances_few c.drain.ensures in omega (arith, c.requires.small)

pub overflow_add-visits-in-Some : goal.overflow_add-visits-in-Some
overflow_add-visits-in-Some g c =
    let few = advances_few (advances_then c.loop-node.invariant (advances_then c.visit.ensures.way c.drain.ensures)) in
    omega (arith, c.requires.small)

pub loop-node-preserved : goal.loop-node-preserved
loop-node-preserved g c = advances_then c.loop-node.invariant (advances_then c.visit.ensures.way c.drain.ensures)

pub returns : goal.returns
returns g c = closed_end c.clear.ensures c.loop-node.invariant (λ j less. c.in_default.ensures j (omega arith))
