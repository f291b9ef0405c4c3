use Rattle.std.proofs.Common.{arith}
use Rattle.notation.proofs.Building.{form_more}
use Rattle.notation.proofs.forms.more.Goals as goal

pub returns : goal.returns
returns c =
    let first = c.in_ok-repeat.ensures in
    let second = c.in_ok-tag.ensures in
    let third = c.in_ok-tag-2.ensures in
    record {
      grows = omega (arith, first.grows, second.grows, third.grows);
      becomes = form_more c.args.at c.len-end.result c.requires c.len-end.ensures first.becomes second.becomes third.becomes;
    }
