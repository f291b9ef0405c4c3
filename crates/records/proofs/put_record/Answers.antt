use Rattle.std.proofs.Common.{length, ap, arith}
use Rattle.records.proofs.Writes.{puts_record}
use Rattle.records.proofs.put_record.Goals as goal

pub returns : goal.returns
returns c = rw c.copy_from_slice.ensures.after (puts_record c.args.words.now c.args.place c.requires.inside c.args.fields (omega (arith, c.copy_from_slice.ensures.len, ap length c.copy_from_slice.ensures.after)))
