use Rattle.views.proofs.Turned.{turned_done}
use Rattle.views.proofs.turning.turn_clear.Goals as goal

pub returns : goal.returns
returns c = turned_done c.requires.clear c.in-Some.ensures c.in-Some-deliver.ensures
