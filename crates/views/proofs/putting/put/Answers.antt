use Rattle.std.proofs.lemmas.Result.{err_from_is_err_and}
use Rattle.views.proofs.Merged.{put_rejected, put_admitted}
use Rattle.views.proofs.putting.put.Goals as goal

pub returns-in_err-row : goal.returns-in_err-row
returns-in_err-row c = let p = err_from_is_err_and c.from_residual.result c.from_residual.ensures.1 in rw (p.1, p.2) (put_rejected _ c.in_err-row.ensures)

pub returns : goal.returns
returns c = let (same, admitted) = c.in_ok-row.ensures in put_admitted admitted.enough (rw same at c.put_clear.ensures)
