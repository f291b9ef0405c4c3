use Rattle.std.proofs.Common.{arith}
use Rattle.rows.proofs.Heads.{nowhere_short, nowhere_down}
use Rattle.rows.proofs.nodes.range_node.Goals as goal

pub returns-then-row-at-lt3 : goal.returns-then-row-at-lt3
returns-then-row-at-lt3 c = nowhere_short _ _ c.requires.inside c.requires.tagged (omega arith)

pub returns-else-low-high : goal.returns-else-low-high
returns-else-low-high c = nowhere_down _ _ (omega arith) c.requires.tagged c.if-low-high.false
