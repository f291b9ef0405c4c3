-- The whole words before this one are copied.
use Rattle.std.proofs.Common.{◌*◌}
use Rattle.recall.specs.Slots.{Copies}
use Rattle.recall.proofs.memory.Memory.copy.Given as goal

abbrev pub invariant-loop-word : goal.invariant-loop-word
invariant-loop-word l = Copies l.self.tree.size l.self.rows.now l.slot l.initial.bits l.bits l.row (32 * l.word)
