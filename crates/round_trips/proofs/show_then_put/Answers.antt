use Rattle.std.proofs.Common.{refl}
use Rattle.std.proofs.lemmas.Result.{err_from_is_err_and}
use Rattle.round_trips.proofs.Trips.{written_within, unchanged_refused, unchanged_put}
use Rattle.round_trips.proofs.show_then_put.Goals as goal

pub returns-in_err-len : goal.returns-in_err-len
returns-in_err-len c = let p = err_from_is_err_and c.from_residual.result c.from_residual.ensures.1 in rw (p.1, p.2) (unchanged_refused c.in_err-len.ensures)

pub slice_bounds-put-end : goal.slice_bounds-put-end
slice_bounds-put-end c = let (v, u, e, clear, shows, written) = c.in_ok-len.ensures.says in written_within written

pub returns : goal.returns
returns c = unchanged_put c.in_ok-len.ensures.says refl c.show.auto.work c.put.ensures
