use Rattle.std.proofs.Common.{refl}
use Rattle.std.proofs.lemmas.Result.{err_from_is_err_and}
use Rattle.round_trips.proofs.Trips.{written_within, seen_refused, seen_shown}
use Rattle.round_trips.proofs.put_then_show.Goals as goal

pub returns-in_err-len : goal.returns-in_err-len
returns-in_err-len c = let p = err_from_is_err_and c.from_residual.result c.from_residual.ensures.1 in rw (p.1, p.2) (seen_refused c.in_err-len.ensures)

pub slice_bounds-show-end : goal.slice_bounds-show-end
slice_bounds-show-end c = let (v, x, e, clear, puts, written) = c.in_ok-len.ensures.says in written_within written

pub returns : goal.returns
returns c = seen_shown c.in_ok-len.ensures.says refl c.put.auto.work c.show.ensures
