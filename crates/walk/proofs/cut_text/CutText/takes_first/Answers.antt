use Rattle.walk.proofs.Choosing.{chooses_null}
use Rattle.walk.proofs.cut_text.CutText.takes_first.Goals as goal

pub returns : goal.returns
returns c = chooses_null c.if-begins_at.ensures.begins c.if-begins_at-2.ensures.begins c.get.result c.get.ensures
