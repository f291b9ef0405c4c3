use Rattle.pairs.proofs.Edges.{stop_waits, leaf_waits}
use Rattle.pairs.proofs.graph.Pairs.moves_of.Goals as goal

pub returns-in-Stop : goal.returns-in-Stop
returns-in-Stop c =
    stop_waits _ _ _ _ _ _ _ c.in-Stop.ensures c.step-in-Stop.ensures (c.follow.ensures c.args.second)

pub returns-in_default : goal.returns-in_default
returns-in_default c =
    leaf_waits _ _ _ _ _ _ _ _ _ _ c.in-Leaf.ensures c.step-in-Leaf.ensures c.in_default.not-Leaf
    (c.follow-in_default.ensures c.args.second)
