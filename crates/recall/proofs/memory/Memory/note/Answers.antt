use Rattle.std.proofs.Common.{arith}
use Rattle.std.proofs.lemmas.Grind.{merely}
use Rattle.std.proofs.lemmas.List.{length-set}
use Rattle.recall.proofs.Recalled.{recalls_of, recalls_noted, notes_set}
use Rattle.recall.proofs.memory.Memory.note.Goals as goal

pub invariant_of-self : goal.invariant_of-self
invariant_of-self c =
    let room = c.args.self.now.room in
    record {
      room = record { free = room.free; rows_long = room.rows_long; next_long = rw length-set room.next_long; few = room.few };
      recalls = merely (recalls_noted (notes_set (omega (arith, room.next_long, room.free)) (omega arith)) c.requires.there c.requires.leads (recalls_of c.args.self.now));
    }
