-- Hands over the theorem. Its proof is in proofs/Cases.
use Rattle.lens.proofs.Cases.{lender_stays}
use Rattle.lens.proofs.lender_stays.Goals as goal

pub returns : goal.returns
returns c = lender_stays
