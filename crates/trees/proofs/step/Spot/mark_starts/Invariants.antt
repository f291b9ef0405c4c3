-- The places from this one on have their bits.
use Rattle.trees.specs.Rows.{Steps}
use Rattle.trees.proofs.step.Spot.mark_starts.Given as goal

abbrev pub invariant-loop-place : goal.invariant-loop-place
invariant-loop-place l = Steps l.self l.initial.bits l.bits l.place
