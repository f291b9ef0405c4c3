use Rattle.pairs.proofs.Marking.{enters_turn}
use Rattle.pairs.proofs.search.enter.Goals as goal

pub loop-state-preserved : goal.loop-state-preserved
loop-state-preserved c =
    enters_turn _ _ _ _ _ _ _ _ _ c.node-node.ensures c.get-reached.ensures c.step.ensures c.is_leaf-reads.ensures
    c.loop-state.invariant c.put.ensures
