use Rattle.std.proofs.Common.{◌∙◌}
use Rattle.viable.proofs.Scanning.{expects_more}
use Rattle.viable.proofs.scanner.Scanner.expected.Goals as goal

pub loop-byte-preserved : goal.loop-byte-preserved
loop-byte-preserved c = (expects_more c.loop-byte.invariant.0 c.advance-reads.ensures c.put.ensures, c.put.ensures.long ∙ c.loop-byte.invariant.1)
