-- The search came this far.
use Rattle.bits.specs.Bits.{bit}
use Rattle.reach.specs.Closed.{misses}
use Rattle.reach.specs.Search.{Advances}
use Rattle.reach.proofs.search.close.Given as goal

abbrev pub invariant-loop-node : goal.invariant-loop-node
invariant-loop-node g l = Advances (g.G.Graph.edge l.g) (g.G.Graph.nodes l.g) l.initial.seen l.initial.done l.seen l.done l.visits

abbrev pub decreases-loop-node : goal.decreases-loop-node
decreases-loop-node g l = misses (bit l.done) (g.G.Graph.nodes l.g)
