use Rattle.std.proofs.Common.{◌≡◌, ◌+◌, ◌-◌, ◌*◌, length, arith}
use Rattle.std.proofs.lemmas.Grind.{merely}
use Rattle.recall.proofs.Recalled.{recalls_of, recalls_taken, takes_filled, length-filled, filled_part}
use Rattle.recall.proofs.memory.Memory.take.Goals as goal

pub invariant_of-self : goal.invariant_of-self
invariant_of-self c =
    let memory = c.args.self.now in
    let room = memory.room in
    let n = 256 * memory.used + 256 - 256 * memory.used in
    let part = filled_part memory.next.now (256 * memory.used) n (omega arith) (omega (arith, room.next_long)) in
    let size : length c.fill.new.self ≡ n = omega (arith, part, c.fill.ensures.len) in
    record {
      room = record {
        free = omega arith;
        rows_long = room.rows_long;
        next_long = omega (arith, room.next_long, length-filled memory.next.now c.fill.new.self (256 * memory.used) n size (omega (arith, room.next_long)));
        few = room.few;
      };
      recalls = merely (recalls_taken (takes_filled {slots = memory.slots} (omega arith) part (c.fill.ensures.after (λ y e. e)) (omega arith) room.next_long) (recalls_of memory));
    }

pub returns-clause-takes : goal.returns-clause-takes
returns-clause-takes c =
    let memory = c.args.self.now in
    let n = 256 * memory.used + 256 - 256 * memory.used in
    let part = filled_part memory.next.now (256 * memory.used) n (omega arith) (omega (arith, memory.room.next_long)) in
    takes_filled (omega arith) part (c.fill.ensures.after (λ y e. e)) (omega arith) memory.room.next_long
