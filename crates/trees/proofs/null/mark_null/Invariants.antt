-- The places from this one on have their bits.
use Rattle.bits.specs.Bits.{bit}
use Rattle.trees.specs.Ready.{Nulls}
use Rattle.trees.proofs.null.mark_null.Given as goal

abbrev pub invariant-loop-place : goal.invariant-loop-place
invariant-loop-place l = Nulls l.size l.words (bit l.null) l.place
