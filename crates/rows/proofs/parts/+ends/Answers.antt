use Rattle.std.proofs.Common.{Some, subst, lit<}
use Rattle.lens.specs.Forms.{one}
use Rattle.rows.specs.Rows.{form_row, text_row, FormFine, TextFine}
use Rattle.rows.specs.Stands.{both_row, BothFine}
use Rattle.rows.specs.Parts.{part_row, PartFine}
use Rattle.rows.specs.Nodes.{IsFormNode}
use Rattle.rows.proofs.Builds.{stands_heads, nowhere_first, ends_both, nowhere_tagged, ends_tagged}
use Rattle.rows.proofs.Tags.{builds_seq, builds_or, builds_many, builds_copy, builds_hide, builds_then, builds_swap, builds_either, builds_each}
use Rattle.rows.proofs.Unique.{splits_form, splits_part}
use Rattle.rows.proofs.parts.+ends.Goals as goal

-- Forms
pub form_end-returns-in-One : goal.form_end-returns-in-One
form_end-returns-in-One t c =
    let (heads, fine) = subst (λ n. IsFormNode c.args.row.now c.args.at (Some n)) c.in-One.is c.in_ok-form_node.ensures in
    stands_heads (one c.in-One.field-0 c.in-One.field-1) fine (lit< tt) heads

pub form_end-returns-in-Seq : goal.form_end-returns-in-Seq
form_end-returns-in-Seq t c = ends_tagged builds_seq (rw c.in-Seq.is at c.in_ok-form_node.ensures) _ c.pair_end.ensures

pub form_end-returns-in-Or : goal.form_end-returns-in-Or
form_end-returns-in-Or t c = ends_tagged builds_or (rw c.in-Or.is at c.in_ok-form_node.ensures) _ c.pair_end-in-Or.ensures

pub form_end-returns-in-Many : goal.form_end-returns-in-Many
form_end-returns-in-Many t c = ends_tagged builds_many (rw c.in-Many.is at c.in_ok-form_node.ensures) _ c.part_end.ensures

-- Pairs
pub pair_end-returns : goal.pair_end-returns
pair_end-returns t c = let k = c.args.kind in ends_both (part_row k) (PartFine k) (part_row k) (PartFine k) (splits_part k) c.in_ok-second.ensures _ c.part_end-2.ensures

-- Parts of each kind
pub part_end-returns-in-Form : goal.part_end-returns-in-Form
part_end-returns-in-Form t c = rw c.in-Form.is c.form_end.ensures

pub part_end-returns-in-View : goal.part_end-returns-in-View
part_end-returns-in-View t c = rw c.in-View.is c.view_end.ensures

pub part_end-returns-in-Text : goal.part_end-returns-in-Text
part_end-returns-in-Text t c = rw c.in-Text.is c.text_end.ensures

-- Views
pub view_end-returns-in-Copy : goal.view_end-returns-in-Copy
view_end-returns-in-Copy t c = ends_tagged builds_copy (rw c.in-Copy.is at c.in_ok-form.ensures) _ c.part_end.ensures

pub view_end-returns-in_err-texts-in-Hide : goal.view_end-returns-in_err-texts-in-Hide
view_end-returns-in_err-texts-in-Hide t c =
    rw c.from_residual-in_err-texts-in-Hide.ensures
    (nowhere_tagged builds_hide (rw c.in-Hide.is at c.in_ok-form.ensures)
    (nowhere_first form_row FormFine (both_row text_row text_row) (BothFine TextFine TextFine) c.in_err-texts-in-Hide.ensures))

pub view_end-returns-in_ok-texts-in-Hide : goal.view_end-returns-in_ok-texts-in-Hide
view_end-returns-in_ok-texts-in-Hide t c =
    ends_tagged builds_hide (rw c.in-Hide.is at c.in_ok-form.ensures) _
    (ends_both form_row FormFine (both_row text_row text_row) (BothFine TextFine TextFine) splits_form c.in_ok-texts-in-Hide.ensures _ c.pair_end.ensures)

pub view_end-returns-in-Then : goal.view_end-returns-in-Then
view_end-returns-in-Then t c = ends_tagged builds_then (rw c.in-Then.is at c.in_ok-form.ensures) _ c.pair_end-in-Then.ensures

pub view_end-returns-in-Swap : goal.view_end-returns-in-Swap
view_end-returns-in-Swap t c = ends_tagged builds_swap (rw c.in-Swap.is at c.in_ok-form.ensures) _ c.pair_end-in-Swap.ensures

pub view_end-returns-in-Either : goal.view_end-returns-in-Either
view_end-returns-in-Either t c = ends_tagged builds_either (rw c.in-Either.is at c.in_ok-form.ensures) _ c.pair_end-in-Either.ensures

pub view_end-returns-in-Each : goal.view_end-returns-in-Each
view_end-returns-in-Each t c = ends_tagged builds_each (rw c.in-Each.is at c.in_ok-form.ensures) _ c.part_end-in-Each.ensures
