use Rattle.std.proofs.Common.{arith}
use Rattle.trees.proofs.Marks.{nulls_none, nulls_more, nulls_all}
use Rattle.trees.proofs.null.mark_null.Goals as goal

pub loop-place-init : goal.loop-place-init
loop-place-init c = nulls_none _ _ _

pub loop-place-preserved : goal.loop-place-preserved
loop-place-preserved c = nulls_more c.requires.linked (omega arith) c.loop-place.invariant c.null_at-value.ensures c.put.ensures

pub returns : goal.returns
returns c = nulls_all c.loop-place-test.false c.loop-place.invariant
