use Rattle.std.proofs.Common.{refl}
use Rattle.recall.proofs.Recalled.{placed_leads}
use Rattle.recall.proofs.memory.Memory.remember.Goals as goal

pub note-requires-clause-leads : goal.note-requires-clause-leads
note-requires-clause-leads c =
    let k = c.keep.ensures in
    let e = c.in_ok-to.ensures in
    placed_leads k.room k.used k.keeps e.room e.rows e.same c.requires.made refl c.in-Some.is
