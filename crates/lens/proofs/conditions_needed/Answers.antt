-- Hands over the theorem. Its proof is in proofs/Needed.
use Rattle.lens.proofs.Needed.{needed}
use Rattle.lens.proofs.conditions_needed.Goals as goal

pub returns : goal.returns
returns c = needed
