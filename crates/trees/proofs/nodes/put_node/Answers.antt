use Rattle.trees.proofs.Words.{puts_change}
use Rattle.trees.proofs.nodes.put_node.Goals as goal

pub returns : goal.returns
returns c = puts_change c.put_record.ensures c.into.ensures
