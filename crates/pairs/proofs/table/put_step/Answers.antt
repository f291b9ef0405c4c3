use Rattle.pairs.proofs.Tables.{puts_change}
use Rattle.pairs.proofs.table.put_step.Goals as goal

pub returns : goal.returns
returns c = puts_change c.put_record.ensures c.into.ensures
