use Rattle.std.proofs.Common.{arith}
use Rattle.bits.proofs.Tables.{puts_or}
use Rattle.bits.proofs.set.Goals as goal

pub returns : goal.returns
returns c = puts_or _ _ (omega arith)
