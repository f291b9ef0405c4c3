use Rattle.std.proofs.Common.{arith}
use Rattle.recall.proofs.Recalled.{recalled_is}
use Rattle.recall.proofs.memory.Memory.recall.Goals as goal

pub returns : goal.returns
returns c = recalled_is c.args.self.now c.args.from c.args.byte c.checked_sub.result c.requires.inside (omega arith) c.checked_sub.ensures
