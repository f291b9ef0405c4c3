use Rattle.std.proofs.Common.{◌+◌, length}
use Rattle.pairs.specs.Table.{Bounded}
use Rattle.clear.proofs.TextNodes.{Chained}
use Rattle.clear.proofs.fill.fill_text.Given as goal

abbrev pub invariant-loop-place : goal.invariant-loop-place
invariant-loop-place l = Chained l.row.bytes.now l.initial.table l.table l.at l.place × Bounded (length l.row.bytes.now + 1) l.table
