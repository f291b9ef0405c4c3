use Rattle.pairs.specs.Marks.{Enters}
use Rattle.pairs.specs.Pairs.{stopped}
use Rattle.pairs.proofs.search.enter.Given as goal

abbrev pub invariant-loop-state : goal.invariant-loop-state
invariant-loop-state l =
    Enters l.before.automaton.states (stopped l.before.automaton.table.now l.before.end) l.before.end l.seen l.state l.entered
