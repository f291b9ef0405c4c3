-- Each function has a weight among those of one depth, so that a call at the same depth goes down.
use Rattle.std.proofs.Common.{◌+◌, ◌*◌, ◌≤◌}
use Rattle.notation.specs.Progress.{left, Goes}
use Rattle.notation.proofs.parser.Parser.+forms.Given as goal

abbrev pub decreases-form : goal.decreases-form
decreases-form l = 5 * l.depth + 4

abbrev pub decreases-branch : goal.decreases-branch
decreases-branch l = 5 * l.depth + 3

abbrev pub decreases-repeat : goal.decreases-repeat
decreases-repeat l = 5 * l.depth + 2

abbrev pub decreases-atom : goal.decreases-atom
decreases-atom l = 5 * l.depth + 1

abbrev pub decreases-nested_form : goal.decreases-nested_form
decreases-nested_form l = 5 * l.depth

abbrev pub invariant-form-loop-self : goal.invariant-form-loop-self
invariant-form-loop-self l = (l.at ≤ l.self.row.total) × Goes l.initial.self l.self

abbrev pub decreases-form-loop-self : goal.decreases-form-loop-self
decreases-form-loop-self l = left l.self

abbrev pub invariant-branch-loop-self : goal.invariant-branch-loop-self
invariant-branch-loop-self l = (l.at ≤ l.self.row.total) × Goes l.initial.self l.self

abbrev pub decreases-branch-loop-self : goal.decreases-branch-loop-self
decreases-branch-loop-self l = left l.self

abbrev pub invariant-repeat-loop : goal.invariant-repeat-loop
invariant-repeat-loop l = (l.at ≤ l.self.row.total) × Goes l.initial.self l.self

abbrev pub decreases-repeat-loop : goal.decreases-repeat-loop
decreases-repeat-loop l = left l.self
