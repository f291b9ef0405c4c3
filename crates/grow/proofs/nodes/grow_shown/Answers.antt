use Rattle.grow.proofs.Parts.{shown_grows}
use Rattle.grow.proofs.nodes.grow_shown.Goals as goal

pub returns : goal.returns
returns c = shown_grows c.in-Some.ensures c.put_node.ensures c.grow_text.ensures
