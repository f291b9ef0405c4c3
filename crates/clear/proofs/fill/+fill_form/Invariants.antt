use Rattle.std.proofs.Common.{◌-◌, length}
use Rattle.clear.proofs.fill.+fill_form.Given as goal

abbrev pub decreases-fill_form : goal.decreases-fill_form
decreases-fill_form l = length l.row.now.bytes.now - l.at
