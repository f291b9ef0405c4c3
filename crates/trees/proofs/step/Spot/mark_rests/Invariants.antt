-- The places before this one have their bits.
use Rattle.trees.specs.Rows.{Rested}
use Rattle.trees.proofs.step.Spot.mark_rests.Given as goal

abbrev pub invariant-loop-place : goal.invariant-loop-place
invariant-loop-place l = Rested l.bits l.self l.rests l.place
