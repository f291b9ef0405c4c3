use Rattle.std.proofs.Common.{inl, inr, arith, ltb-false, ltb-true}
use Rattle.rows.specs.Rows.{view_row, ViewFine}
use Rattle.rows.proofs.Heads.{nowhere_end, view_some, nowhere_view}
use Rattle.rows.proofs.nodes.view_node.Goals as goal

pub returns-then-at-row : goal.returns-then-at-row
returns-then-at-row c = nowhere_end view_row ViewFine view_some _ _ c.if-at-row.true

pub returns-in-0-to-9 : goal.returns-in-0-to-9
returns-in-0-to-9 c = nowhere_view _ _ c.if-at-row.false (inl (omega (arith, ltb-true, ltb-false)))

pub returns-in-16-to-255 : goal.returns-in-16-to-255
returns-in-16-to-255 c = nowhere_view _ _ c.if-at-row.false (inr (omega (arith, ltb-true, ltb-false)))
