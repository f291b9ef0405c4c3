use Rattle.std.proofs.Common.{subst}
use Rattle.walk.proofs.Texts.{text_bytes}
use Rattle.walk.proofs.give.give_text.Goals as goal

pub returns : goal.returns
returns g c = λ v e l. subst (g.S.Sink.took c.args.sink.now c.give_part.new.sink) (text_bytes c.in-Some.ensures l) c.give_part.ensures
