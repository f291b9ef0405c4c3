use Rattle.viable.proofs.Following.{follow_more}
use Rattle.viable.proofs.scanner.Scanner.follow.Goals as goal

pub loop-at-preserved : goal.loop-at-preserved
loop-at-preserved c =
    let self = c.args.self.now in
    follow_more self.automaton.table.now self.automaton.states self.automaton.stays self.some c.args.text.now c.loop-at-test.true c.loop-at.invariant
    c.if-not-advance.ensures c.copy_from_slice.ensures.after c.close.ensures
