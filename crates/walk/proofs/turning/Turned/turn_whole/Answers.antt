use Rattle.walk.proofs.Giving.{whole_gives}
use Rattle.walk.proofs.turning.Turned.turn_whole.Goals as goal

pub returns : goal.returns
returns g c = let given = rw c.all.ensures at c.turn_part.ensures in λ v w. whole_gives c.args.self.now.cut.scanned.text.now (given v w)
