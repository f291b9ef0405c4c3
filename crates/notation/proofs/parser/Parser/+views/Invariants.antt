-- Each function has a weight among those of one depth, so that a call at the same depth goes down.
use Rattle.std.proofs.Common.{◌+◌, ◌*◌, ◌≤◌}
use Rattle.notation.specs.Progress.{left, Goes}
use Rattle.notation.proofs.parser.Parser.+views.Given as goal

abbrev pub decreases-view : goal.decreases-view
decreases-view l = 4 * l.depth + 3

abbrev pub decreases-series : goal.decreases-series
decreases-series l = 4 * l.depth + 2

abbrev pub decreases-item : goal.decreases-item
decreases-item l = 4 * l.depth + 1

abbrev pub decreases-swap : goal.decreases-swap
decreases-swap l = 4 * l.depth

abbrev pub decreases-each : goal.decreases-each
decreases-each l = 4 * l.depth

abbrev pub decreases-nested_view : goal.decreases-nested_view
decreases-nested_view l = 4 * l.depth

abbrev pub invariant-view-loop-self : goal.invariant-view-loop-self
invariant-view-loop-self l = (l.at ≤ l.self.row.total) × Goes l.initial.self l.self

abbrev pub decreases-view-loop-self : goal.decreases-view-loop-self
decreases-view-loop-self l = left l.self

abbrev pub invariant-series-loop-self : goal.invariant-series-loop-self
invariant-series-loop-self l = (l.at ≤ l.self.row.total) × Goes l.initial.self l.self

abbrev pub decreases-series-loop-self : goal.decreases-series-loop-self
decreases-series-loop-self l = left l.self
