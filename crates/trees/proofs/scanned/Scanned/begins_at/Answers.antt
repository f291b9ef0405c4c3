use Rattle.trees.proofs.Tables.{begins_begun}
use Rattle.trees.proofs.scanned.Scanned.begins_at.Goals as goal

pub returns-clause-begins : goal.returns-clause-begins
returns-clause-begins c = begins_begun c.args.self.now c.begun_at.ensures
