use Rattle.bits.proofs.Scans.{left_word}
use Rattle.bits.proofs.left.Goals as goal

pub returns : goal.returns
returns c = left_word _ _ _ _ _ c.word_at.ensures c.word_at-2.ensures c.word_at-2.type_inv
