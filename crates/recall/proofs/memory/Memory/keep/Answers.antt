use Rattle.std.proofs.Common.{arith}
use Rattle.std.proofs.lemmas.Grind.{merely}
use Rattle.recall.proofs.Recalled.{recalls_of, recalls_kept}
use Rattle.recall.proofs.memory.Memory.keep.Goals as goal

pub invariant_of-self : goal.invariant_of-self
invariant_of-self c =
    let room = c.args.self.now.room in
    record {
      room = record { free = room.free; rows_long = omega (arith, room.rows_long, c.keep_row.auto.rows); next_long = room.next_long; few = omega (arith, room.few, c.keep_row.auto.rows) };
      recalls = merely (recalls_kept _ c.keep_row.ensures (recalls_of c.args.self.now));
    }
