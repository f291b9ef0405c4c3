use Rattle.std.proofs.Common.{◌≡◌, ◌+◌, ◌-◌, refl, arith}
use Rattle.recall.proofs.Going.{filled_more}
use Rattle.recall.proofs.pass.backward.Goals as goal

pub loop-i-preserved : goal.loop-i-preserved
loop-i-preserved c =
    let place : c.loop-i.i ≡ (c.loop-i.i - 1) + 1 = omega arith in
    let s = c.step-slot.ensures in
    filled_more (c.loop-i.i - 1) place refl refl c.loop-i.invariant (omega arith) refl s.tree s.steps s.known
