-- The states of the set below the one that the scan goes on at have gone on.
use Rattle.std.proofs.Common.{◌-◌, ◌≤◌}
use Rattle.viable.specs.States.{Advanced}
use Rattle.viable.proofs.scanner.Scanner.advance.Given as goal

abbrev pub invariant-loop-state : goal.invariant-loop-state
invariant-loop-state l = Advanced l.self.automaton.table.now l.from l.set l.byte l.next l.some × (l.from ≤ l.self.automaton.states)

abbrev pub decreases-loop-state : goal.decreases-loop-state
decreases-loop-state l = l.self.automaton.states - l.from
