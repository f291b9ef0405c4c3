-- Parts stand behind their node, so the nodes that are left fall; at one place a series asks for its part, and a part for
-- what it is made of. In the series, the parts up to the end are cut, and the text goes on with any number of parts.
use Rattle.std.proofs.Common.{◌+◌, ◌-◌, ◌*◌, length}
use Rattle.marks.specs.Passes.{HereSeries}
use Rattle.marks.proofs.Passing.{Run}
use Rattle.marks.proofs.cut.+marking.Given as goal

abbrev pub decreases-mark_inner : goal.decreases-mark_inner
decreases-mark_inner l = 3 * (l.scanned.now.tree.size - l.place)

abbrev pub decreases-mark_part : goal.decreases-mark_part
decreases-mark_part l = 3 * (l.scanned.now.tree.size - l.place) + 1

abbrev pub decreases-mark_series : goal.decreases-mark_series
decreases-mark_series l = 3 * (l.scanned.now.tree.size - l.place) + 2

abbrev pub invariant-mark_series-parts : goal.invariant-mark_series-parts
invariant-mark_series-parts l =
    Run l.scanned l.place l.initial.marks l.marks l.at l.end × HereSeries l.scanned l.place l.end

abbrev pub decreases-mark_series-parts : goal.decreases-mark_series-parts
decreases-mark_series-parts l = length l.scanned.text.now - l.end
