use Rattle.std.proofs.Common.{◌-◌, length}
use Rattle.grow.proofs.nodes.+grow_form.Given as goal

abbrev pub decreases-grow_form : goal.decreases-grow_form
decreases-grow_form l = length l.row.now.bytes.now - l.at
