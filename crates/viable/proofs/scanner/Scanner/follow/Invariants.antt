-- The set is that of the text so far.
use Rattle.std.proofs.Common.{take}
use Rattle.viable.specs.States.{After}
use Rattle.viable.proofs.scanner.Scanner.follow.Given as goal

abbrev pub invariant-loop-at : goal.invariant-loop-at
invariant-loop-at l = After l.self.automaton.table.now l.self.automaton.states (take l.at l.text) l.set
