use Rattle.std.proofs.Common.{length, sym, ap, ◌∙◌, subst}
use Rattle.rows.specs.Rows.{Encodes}
use Rattle.calls.proofs.Copied.{row_stands}
use Rattle.calls.proofs.parsing.parse.Goals as goal

pub returns-else-len-row : goal.returns-else-len-row
returns-else-len-row c =
    let same = c.copy_from_slice.ensures.after ∙ c.deref.ensures.value in
    let said = c.in-Ok.ensures in
    row_stands (ap length c.copy_from_slice.ensures.after ∙ c.deref.ensures.len ∙ sym c.len-count.ensures) (subst (λ s. Encodes s said.0) (sym same) said.1)
