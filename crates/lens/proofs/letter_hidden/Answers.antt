-- Hands over the theorem. Its proof is in proofs/Cases.
use Rattle.lens.proofs.Cases.{letter_hidden}
use Rattle.lens.proofs.letter_hidden.Goals as goal

pub returns : goal.returns
returns c = letter_hidden
