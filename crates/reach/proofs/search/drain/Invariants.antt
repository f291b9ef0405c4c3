-- Each turn takes a hint, and others come only if it makes a node done.
use Rattle.std.proofs.Common.{◌≡◌, ◌+◌, ◌*◌, length}
use Rattle.bits.specs.Bits.{bit}
use Rattle.reach.specs.Closed.{misses}
use Rattle.reach.specs.Search.{Advances}
use Rattle.reach.proofs.search.drain.Given as goal

abbrev pub invariant-loop-hint : goal.invariant-loop-hint
invariant-loop-hint g l =
    (length l.hints.room.now ≡ length l.initial.hints.room.now)
    × Advances (g.G.Graph.edge l.g) (g.G.Graph.nodes l.g) l.initial.seen l.initial.done l.seen l.done l.visits

abbrev pub decreases-loop-hint : goal.decreases-loop-hint
decreases-loop-hint g l = misses (bit l.done) (g.G.Graph.nodes l.g) * (length l.initial.hints.room.now + 1) + l.hints.count
