use Rattle.std.proofs.Common.{arith}
use Rattle.walk.proofs.Writing.{put_is, wrote_here}
use Rattle.walk.proofs.written.write.Goals as goal

pub returns : goal.returns
returns c = wrote_here (omega arith) (put_is c.args.bytes.now c.args.len c.args.part.now c.copy_from_slice.new.self c.copy_from_slice.ensures.after)
