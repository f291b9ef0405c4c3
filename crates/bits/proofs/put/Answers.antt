use Rattle.std.proofs.Common.{arith}
use Rattle.bits.proofs.Tables.{puts_xor}
use Rattle.bits.proofs.put.Goals as goal

pub returns : goal.returns
returns c = puts_xor _ _ _ (omega arith) (rw c.get.ensures at c.if-get-value.false)
