use Rattle.pairs.proofs.Crossing.{crosses_decided}
use Rattle.pairs.proofs.automaton.Automaton.crosses.Goals as goal

pub returns : goal.returns
returns c =
    crosses_decided _ c.args.self.now.table.now _ _ _ _ _ _ c.args.self.now.stays c.requires.first_inside c.requires.middle_inside c.requires.end_inside
    c.node.ensures c.node-2.ensures c.mark_only.ensures c.close-visited_before.ensures c.enter.ensures
    c.close-visited_after.ensures c.get-yes.ensures
