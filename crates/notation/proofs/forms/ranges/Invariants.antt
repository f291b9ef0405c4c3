use Rattle.std.proofs.Common.{◌≤◌}
use Rattle.notation.proofs.forms.ranges.Given as goal

abbrev pub invariant-loop-high : goal.invariant-loop-high
invariant-loop-high l = (l.initial.row.total ≤ l.row.total) × (l.at ≤ l.row.total)
