use Rattle.rows.proofs.Whole.{whole_none, whole_more}
use Rattle.rows.proofs.row.Row.of_view.Goals as goal

pub returns-in_err-end : goal.returns-in_err-end
returns-in_err-end c = rw c.from_residual-in_err-end.ensures (rw c.in_ok-row.ensures at (whole_none c.in_err-end.ensures))

pub returns-else-end-bytes : goal.returns-else-end-bytes
returns-else-end-bytes c = whole_more (rw c.in_ok-row.ensures at c.in_ok-end.ensures) c.if-end-bytes.false
