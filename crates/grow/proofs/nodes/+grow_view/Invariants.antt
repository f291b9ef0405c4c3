use Rattle.std.proofs.Common.{◌-◌, length}
use Rattle.grow.proofs.nodes.+grow_view.Given as goal

abbrev pub decreases-grow_view : goal.decreases-grow_view
decreases-grow_view l = length l.row.now.bytes.now - l.at
