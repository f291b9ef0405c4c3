use Rattle.std.proofs.Common.{arith}
use Rattle.viable.proofs.Scanning.{advanced_on, advanced_more}
use Rattle.viable.proofs.scanner.Scanner.advance.Goals as goal

pub loop-state-preserved : goal.loop-state-preserved
loop-state-preserved c =
    let first = c.in-Some.ensures in (
      advanced_more _ _ _ first.left.has (advanced_on _ _ _ first.from first.none c.loop-state.invariant.0) c.go_on-some.ensures,
      omega (arith, first.below),
    )

pub returns : goal.returns
returns c = advanced_on _ _ _ c.loop-state.invariant.1 c.in_default.ensures c.loop-state.invariant.0
