use Rattle.pairs.proofs.Meeting.{meets_decided}
use Rattle.pairs.proofs.automaton.Automaton.meets.Goals as goal

pub returns : goal.returns
returns c =
    meets_decided _ c.args.self.now.table.now _ _ _ _ _ _ c.args.self.now.stays c.requires.first_inside c.requires.second_inside c.requires.end_inside
    c.node.ensures c.node-2.ensures c.mark_only.ensures c.close-visited.ensures c.get-yes.ensures
