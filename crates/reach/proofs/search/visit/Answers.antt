use Rattle.reach.proofs.Advances.{advances_visit}
use Rattle.reach.proofs.search.visit.Goals as goal

pub returns-clause-way : goal.returns-clause-way
returns-clause-way g c = advances_visit c.requires.inside c.requires.fresh c.set.ensures c.expand.ensures.all
