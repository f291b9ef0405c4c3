use Rattle.pairs.proofs.Marking.{only_one}
use Rattle.viable.proofs.Sets.{after_none}
use Rattle.viable.proofs.scanner.Scanner.begin.Goals as goal

pub returns : goal.returns
returns c =
    after_none c.args.self.now.automaton.table.now c.args.self.now.automaton.states c.args.self.now.automaton.stays c.args.self.now.some
    (only_one c.clear.ensures c.set.ensures) c.close.ensures
