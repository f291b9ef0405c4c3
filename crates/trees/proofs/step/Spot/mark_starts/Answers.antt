use Rattle.std.proofs.Common.{arith}
use Rattle.trees.proofs.Marks.{steps_none, steps_more, steps_all}
use Rattle.trees.proofs.step.Spot.mark_starts.Goals as goal

pub loop-place-init : goal.loop-place-init
loop-place-init c = steps_none _ _

pub loop-place-preserved : goal.loop-place-preserved
loop-place-preserved c = steps_more (omega arith) (omega arith) c.requires.rested c.loop-place.invariant c.start_at-value.ensures c.put.ensures

pub returns : goal.returns
returns c = steps_all c.loop-place-test.false c.loop-place.invariant
