-- A part begins behind its node's tag, so the row that is left falls; at one place a pair asks for a part, and that for a form or a view.
use Rattle.std.proofs.Common.{◌+◌, ◌-◌, ◌*◌, length}
use Rattle.rows.proofs.parts.+ends.Given as goal

abbrev pub decreases-form_end : goal.decreases-form_end
decreases-form_end l = 3 * (length l.row.now - l.at)

abbrev pub decreases-pair_end : goal.decreases-pair_end
decreases-pair_end l = 3 * (length l.row.now - l.at) + 2

abbrev pub decreases-part_end : goal.decreases-part_end
decreases-part_end l = 3 * (length l.row.now - l.at) + 1

abbrev pub decreases-view_end : goal.decreases-view_end
decreases-view_end l = 3 * (length l.row.now - l.at)
