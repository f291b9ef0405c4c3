use Rattle.std.proofs.Common.{Ok, Err, refl}
use Rattle.std.proofs.lemmas.Result.{err_from_is_err_and}
use Rattle.views.proofs.Readers.{fit_post}
use Rattle.views.proofs.fitting.viable_prefix.Goals as goal

pub returns-in_err-read : goal.returns-in_err-read
returns-in_err-read c =
    let (same, is) = c.in-Some.ensures in
    let p = err_from_is_err_and c.from_residual.result c.from_residual.ensures.1 in
    rw (p.1, p.2) (fit_post (Err _) (c.if-not-has_room.ensures.0 refl) is (rw same at c.lay.ensures.lays) c.in_err-read.ensures)

pub returns : goal.returns
returns c =
    let (same, is) = c.in-Some.ensures in
    fit_post (Ok _) (c.if-not-has_room.ensures.0 refl) is (rw same at c.lay.ensures.lays) c.in_ok-read.ensures
