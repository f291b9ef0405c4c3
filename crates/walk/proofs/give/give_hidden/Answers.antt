use Rattle.clear.proofs.Laying.{laid_somewhere}
use Rattle.clear.proofs.ViewNodes.{no_shown}
use Rattle.walk.proofs.Texts.{hidden_texts}
use Rattle.walk.proofs.give.give_hidden.Goals as goal

pub returns-in_default-part_end : goal.returns-in_default-part_end
returns-in_default-part_end g c = λ p e l. absurd (laid_somewhere l (no_shown c.in-Some.ensures c.in_default-part_end.ensures))

pub returns-in-Source : goal.returns-in-Source
returns-in-Source g c = λ p e l. rw c.in-Source.is (c.give_text.ensures p.1.0 _ (hidden_texts c.in-Some.ensures c.in-Some-part_end.ensures l).0)

pub returns-in-Look : goal.returns-in-Look
returns-in-Look g c = λ p e l. rw c.in-Look.is (c.give_text-in-Look.ensures p.1.1 _ (hidden_texts c.in-Some.ensures c.in-Some-part_end.ensures l).1)
