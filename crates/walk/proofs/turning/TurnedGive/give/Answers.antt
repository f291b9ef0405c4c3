use Rattle.walk.proofs.Giving.{turned_whole}
use Rattle.walk.proofs.turning.TurnedGive.give.Goals as goal

pub turn_whole-requires : goal.turn_whole-requires
turn_whole-requires g c = record { view = c.requires.view; walk = c.requires.walk }

pub returns : goal.returns
returns g c = turned_whole c.requires c.turn_whole.ensures
