use Rattle.std.proofs.Common.{Some, subst}
use Rattle.rows.specs.Rows.{form_row, FormFine}
use Rattle.rows.specs.Nodes.{IsFormNode}
use Rattle.rows.proofs.Builds.{nowhere_first, nowhere_tagged}
use Rattle.rows.proofs.Tags.{builds_seq, builds_or}
use Rattle.grow.proofs.Parts.{nowhere_grows}
use Rattle.grow.proofs.EachKind.{form_empty, form_one, form_seq, form_or, form_many}
use Rattle.grow.proofs.nodes.+grow_form.Goals as goal

-- Leaves
pub returns-in-Empty : goal.returns-in-Empty
returns-in-Empty t c = form_empty (rw c.in-Empty.is at c.in-Some.ensures) c.put_node.ensures

pub returns-in-One : goal.returns-in-One
returns-in-One t c =
    let node = subst (λ n. IsFormNode c.args.row.now.bytes.now c.args.at (Some n)) c.in-One.is c.in-Some.ensures in
    form_one node.0 c.put_node-in-One.ensures

-- Two parts
pub returns-in_default-part_end : goal.returns-in_default-part_end
returns-in_default-part_end t c = nowhere_grows (nowhere_tagged builds_seq (rw c.in-Seq.is at c.in-Some.ensures) (nowhere_first form_row FormFine form_row FormFine c.in_default-part_end.ensures))

pub returns-in-Some-part_end : goal.returns-in-Some-part_end
returns-in-Some-part_end t c = form_seq (rw c.in-Seq.is at c.in-Some.ensures) c.in-Some-part_end.ensures c.put_node-in-Seq.ensures c.grow_form.ensures c.grow_form-in-Seq.ensures

pub returns-in_default-part_end-2 : goal.returns-in_default-part_end-2
returns-in_default-part_end-2 t c = nowhere_grows (nowhere_tagged builds_or (rw c.in-Or.is at c.in-Some.ensures) (nowhere_first form_row FormFine form_row FormFine c.in_default-part_end-2.ensures))

pub returns-in-Some-part_end-2 : goal.returns-in-Some-part_end-2
returns-in-Some-part_end-2 t c = form_or (rw c.in-Or.is at c.in-Some.ensures) c.in-Some-part_end-2.ensures c.put_node-in-Or.ensures c.grow_form-in-Or.ensures c.grow_form-in-Or-2.ensures

-- One part
pub returns-in-Many : goal.returns-in-Many
returns-in-Many t c = form_many (rw c.in-Many.is at c.in-Some.ensures) c.put_node-in-Many.ensures c.grow_form-in-Many.ensures
