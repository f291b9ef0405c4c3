use Rattle.rows.proofs.Whole.{is_view_read}
use Rattle.rows.proofs.is_view.Goals as goal

pub returns : goal.returns
returns c = rw c.is_some.ensures (is_view_read _ c.of_view.ensures)
