use Rattle.trees.proofs.Marks.{rested_none, rested_more, rested_all}
use Rattle.trees.proofs.step.Spot.mark_rests.Goals as goal

pub loop-place-init : goal.loop-place-init
loop-place-init c = rested_none _ _ _

pub loop-place-preserved : goal.loop-place-preserved
loop-place-preserved c = rested_more c.loop-place.invariant c.rest_at-value.ensures c.put.ensures

pub returns : goal.returns
returns c = rested_all c.loop-place-test.false c.loop-place.invariant
