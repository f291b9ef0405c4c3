use Rattle.clear.proofs.Telling.{tells_both}
use Rattle.clear.proofs.verdict.is_clear.Goals as goal

pub returns : goal.returns
returns c = tells_both c.bitand.ensures c.is_clear_on.ensures c.is_clear_on-2.ensures
