use Rattle.std.proofs.Common.{refl}
use Rattle.clear.proofs.Telling.{tells_some, tells_none}
use Rattle.clear.proofs.verdict.is_clear_on.Goals as goal

pub returns-in-Some : goal.returns-in-Some
returns-in-Some c = tells_some refl c.in-Some.ensures.fills

pub returns-in-None : goal.returns-in-None
returns-in-None c = tells_none c.in-None.ensures.fills
