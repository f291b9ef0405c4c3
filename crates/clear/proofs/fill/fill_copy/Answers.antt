use Rattle.std.proofs.Common.{refl}
use Rattle.clear.proofs.ViewNodes.{finds_copy}
use Rattle.clear.proofs.fill.fill_copy.Goals as goal

pub returns : goal.returns
returns c = record { fills = finds_copy c.put_step.ensures c.in_ok-end.ensures.fills refl c.known.ensures; bounded = c.in_ok-end.ensures.bounded }
