use Rattle.std.proofs.Common.{arith, ltb-false, ltb-true}
use Rattle.rows.specs.Rows.{form_row, FormFine}
use Rattle.rows.proofs.Heads.{nowhere_end, form_some, nowhere_form}
use Rattle.rows.proofs.nodes.form_node.Goals as goal

pub returns-then-at-row : goal.returns-then-at-row
returns-then-at-row c = nowhere_end form_row FormFine form_some _ _ c.if-at-row.true

pub returns-in-5-to-255 : goal.returns-in-5-to-255
returns-in-5-to-255 c = nowhere_form _ _ c.if-at-row.false (omega (arith, ltb-true, ltb-false))
