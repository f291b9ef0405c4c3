-- The bits before this one are kept.
use Rattle.recall.specs.Slots.{Keeps}
use Rattle.recall.proofs.slots.keep_row.Given as goal

abbrev pub invariant-loop-place : goal.invariant-loop-place
invariant-loop-place l = Keeps l.size l.bits l.row l.initial.rows l.rows l.slot l.place
