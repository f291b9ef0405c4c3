use Rattle.std.proofs.Common.{subst, arith}
use Rattle.marks.specs.Tables.{Part}
use Rattle.marks.proofs.Tables.{cleared}
use Rattle.marks.proofs.Places.{here_root, root_ends}
use Rattle.marks.proofs.pass.mark_all.Goals as goal

pub mark_part-requires : goal.mark_part-requires
mark_part-requires c =
    record {
      room = omega arith;
      fresh = cleared c.args.scanned.now.tree c.clear.ensures;
      here = here_root c.args.scanned.now c.requires.grown c.if-not-matches.ensures;
    }

pub returns : goal.returns
returns c =
    let cut = c.mark_part.ensures.cut in
    record {
      accepts = c.if-not-matches.ensures;
      marked = λ yes.
          subst (Part c.args.scanned.now c.mark_part.new.marks c.args.scanned.now.tree.root 0)
          (root_ends c.args.scanned.now c.requires.grown c.if-not-matches.ensures cut) cut;
    }
