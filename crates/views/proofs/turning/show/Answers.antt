use Rattle.views.proofs.Turned.{shown_post}
use Rattle.views.proofs.turning.show.Goals as goal

pub returns : goal.returns
returns c = shown_post c.turned.ensures
