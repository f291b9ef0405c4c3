-- The places of the text from this one on have their rows, and if a slot is named, it has the row filled last.
use Rattle.recall.proofs.Going.{Filled}
use Rattle.recall.proofs.pass.backward.Given as goal

abbrev pub invariant-loop-i : goal.invariant-loop-i
invariant-loop-i l = Filled l.tree l.memory l.bits l.text l.i l.slot
