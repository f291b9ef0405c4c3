use Rattle.std.proofs.Common.{refl, ◌∙◌, arith}
use Rattle.reach.proofs.Advances.{advances_none, advances_then, advances_few}
use Rattle.reach.proofs.search.drain.Goals as goal

pub loop-hint-init : goal.loop-hint-init
loop-hint-init g c = (refl, advances_none _ _)

pub overflow_add-visits : goal.overflow_add-visits
overflow_add-visits g c = let few = advances_few c.loop-hint.invariant.1 in omega (arith, c.requires.room.small)

pub loop-hint-preserved-then-is_fresh : goal.loop-hint-preserved-then-is_fresh
loop-hint-preserved-then-is_fresh g c = (
  c.visit.ensures.hints_room ∙ c.pop.ensures.room ∙ c.loop-hint.invariant.0,
  advances_then c.loop-hint.invariant.1 c.visit.ensures.way,
)
