use Rattle.std.proofs.Common.{arith}
use mir.Facts.{Fits-lt-pow}
use Rattle.rows.specs.Rows.{text_row, TextFine}
use Rattle.rows.proofs.Heads.{nowhere_end, text_some, stands_text}
use Rattle.rows.proofs.parts.text_end.Goals as goal

pub returns-then-at-row : goal.returns-then-at-row
returns-then-at-row c = nowhere_end text_row TextFine text_some _ _ c.if-at-row.true

pub returns : goal.returns
returns c = stands_text _ _ c.if-at-row.false (λ i. Fits-lt-pow (c.type_inv.row i)) (omega arith)
