use Rattle.rows.specs.Rows.{view_row, ViewFine}
use Rattle.rows.proofs.Builds.{nowhere_first, nowhere_tagged}
use Rattle.rows.proofs.Tags.{builds_then, builds_swap, builds_either}
use Rattle.grow.proofs.Parts.{nowhere_grows, hidden_grows, look_grows}
use Rattle.grow.proofs.EachKind.{view_copy, view_then, view_swap, view_either, view_each}
use Rattle.grow.proofs.nodes.+grow_view.Goals as goal

-- A form
pub returns-in-Copy : goal.returns-in-Copy
returns-in-Copy t c = view_copy c.args.side (rw c.in-Copy.is at c.in-Some.ensures) c.put_node.ensures c.grow_form.ensures

pub returns-in-Source : goal.returns-in-Source
returns-in-Source t c = rw c.in-Source.is (hidden_grows (rw c.in-Hide.is at c.in-Some.ensures) c.put_node-in-Source.ensures c.grow_form-in-Source.ensures)

pub returns-in-Look : goal.returns-in-Look
returns-in-Look t c = rw c.in-Look.is (look_grows (rw c.in-Hide.is at c.in-Some.ensures) c.grow_shown.ensures)

-- Two views
pub returns-in_default-part_end : goal.returns-in_default-part_end
returns-in_default-part_end t c = nowhere_grows (nowhere_tagged builds_then (rw c.in-Then.is at c.in-Some.ensures) (nowhere_first view_row ViewFine view_row ViewFine c.in_default-part_end.ensures))

pub returns-in-Some-part_end : goal.returns-in-Some-part_end
returns-in-Some-part_end t c = view_then c.args.side (rw c.in-Then.is at c.in-Some.ensures) c.in-Some-part_end.ensures c.put_node-in-Then.ensures c.grow_view.ensures c.grow_view-in-Then.ensures

pub returns-in_default-part_end-2 : goal.returns-in_default-part_end-2
returns-in_default-part_end-2 t c = nowhere_grows (nowhere_tagged builds_swap (rw c.in-Swap.is at c.in-Some.ensures) (nowhere_first view_row ViewFine view_row ViewFine c.in_default-part_end-2.ensures))

pub returns-in-Some-part_end-2 : goal.returns-in-Some-part_end-2
returns-in-Some-part_end-2 t c = view_swap c.args.side (rw c.in-Swap.is at c.in-Some.ensures) c.in-Some-part_end-2.ensures (rw c.swap_node.ensures at c.put_node-in-Swap.ensures) c.grow_view-in-Swap.ensures c.grow_view-in-Swap-2.ensures

pub returns-in_default-part_end-3 : goal.returns-in_default-part_end-3
returns-in_default-part_end-3 t c = nowhere_grows (nowhere_tagged builds_either (rw c.in-Either.is at c.in-Some.ensures) (nowhere_first view_row ViewFine view_row ViewFine c.in_default-part_end-3.ensures))

pub returns-in-Some-part_end-3 : goal.returns-in-Some-part_end-3
returns-in-Some-part_end-3 t c = view_either c.args.side (rw c.in-Either.is at c.in-Some.ensures) c.in-Some-part_end-3.ensures c.put_node-in-Either.ensures c.grow_view-in-Either.ensures c.grow_view-in-Either-2.ensures

-- Any number of parts
pub returns-in-Each : goal.returns-in-Each
returns-in-Each t c = view_each c.args.side (rw c.in-Each.is at c.in-Some.ensures) c.put_node-in-Each.ensures c.grow_view-in-Each.ensures
