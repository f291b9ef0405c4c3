use Rattle.pairs.proofs.Edges.{leads}
use Rattle.pairs.proofs.graph.PairsGraph.moves.Goals as goal

pub returns : goal.returns
returns c = leads _ c.args.self.now.automaton.table.now _ _ _ c.args.self.now.automaton.stays c.requires c.moves_of.ensures
