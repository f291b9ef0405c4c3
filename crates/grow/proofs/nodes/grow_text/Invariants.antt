use Rattle.grow.proofs.Texts.{Chained}
use Rattle.grow.proofs.nodes.grow_text.Given as goal

abbrev pub invariant-loop-place : goal.invariant-loop-place
invariant-loop-place l = Chained l.row.bytes.now l.initial.tree l.tree l.at l.up l.place l.above
