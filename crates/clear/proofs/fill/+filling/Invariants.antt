-- A node's parts stand behind it, so the row that is left falls; a view asks for its node at its own place.
use Rattle.std.proofs.Common.{◌+◌, ◌-◌, ◌*◌, length}
use Rattle.clear.proofs.fill.+filling.Given as goal

abbrev pub decreases-fill_choice : goal.decreases-fill_choice
decreases-fill_choice l = 2 * (length l.row.now.bytes.now - l.at)

abbrev pub decreases-fill_parts : goal.decreases-fill_parts
decreases-fill_parts l = 2 * (length l.row.now.bytes.now - l.at)

abbrev pub decreases-fill_series : goal.decreases-fill_series
decreases-fill_series l = 2 * (length l.row.now.bytes.now - l.at)

abbrev pub decreases-fill_turned : goal.decreases-fill_turned
decreases-fill_turned l = 2 * (length l.row.now.bytes.now - l.at)

abbrev pub decreases-fill_view : goal.decreases-fill_view
decreases-fill_view l = 2 * (length l.row.now.bytes.now - l.at) + 1
