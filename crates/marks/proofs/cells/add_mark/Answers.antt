use Rattle.marks.proofs.Tables.{adds}
use Rattle.marks.proofs.cells.add_mark.Goals as goal

pub returns : goal.returns
returns c = adds c.args.tree.now c.requires.inside c.set.ensures
