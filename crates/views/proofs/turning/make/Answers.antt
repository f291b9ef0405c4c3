use Rattle.views.proofs.Turned.{made_post}
use Rattle.views.proofs.turning.make.Goals as goal

pub returns : goal.returns
returns c = made_post c.turned.ensures
