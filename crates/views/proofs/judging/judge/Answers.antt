use Rattle.std.proofs.Common.{arith}
use Rattle.views.proofs.Answered.{judged_few, judged_no_view, judged_plain, judged_unclear}
use Rattle.views.proofs.judging.judge.Goals as goal

pub returns-then-work-floor : goal.returns-then-work-floor
returns-then-work-floor c = judged_few (omega arith)

pub returns-in_default : goal.returns-in_default
returns-in_default c = judged_no_view (omega arith) c.in_default.ensures

pub returns-then-is_clear : goal.returns-then-is_clear
returns-then-is_clear c =
    let (same, is) = c.in-Some.ensures in
    judged_plain (omega arith) is (rw same at c.is_clear.ensures) c.if-is_clear.true

pub returns-else-is_clear : goal.returns-else-is_clear
returns-else-is_clear c =
    let (same, is) = c.in-Some.ensures in
    judged_unclear (omega arith) is (rw same at c.is_clear.ensures) c.if-is_clear.false
