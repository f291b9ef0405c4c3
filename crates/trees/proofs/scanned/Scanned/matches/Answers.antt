use Rattle.trees.proofs.Kept.{tabled_of}
use Rattle.trees.proofs.scanned.Scanned.matches.Goals as goal

pub matches-requires : goal.matches-requires
matches-requires c = record { tabled = tabled_of c.args.self.now }
