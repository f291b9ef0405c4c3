use Rattle.std.proofs.Common.{◌-◌, ◌<◌, length}
use Rattle.notation.proofs.lexer.Cursor.quote.Given as goal

abbrev pub invariant-loop-at : goal.invariant-loop-at
invariant-loop-at l = l.self.start < l.at

abbrev pub decreases-loop-at : goal.decreases-loop-at
decreases-loop-at l = length l.self.text.now - l.at
