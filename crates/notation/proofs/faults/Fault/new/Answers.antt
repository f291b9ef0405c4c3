use Rattle.std.proofs.Common.{◌-◌, take, refl, ◌∙◌}
use Rattle.notation.proofs.Placing.{behind_newline, behind_other, behind_all}
use Rattle.notation.proofs.faults.Fault.new.Goals as goal
use Rattle.notation.proofs.faults.Fault.new.Goals.{then-byte-eq10, else-byte-eq10}

pub loop-byte-preserved : goal.loop-byte-preserved
loop-byte-preserved c =
    let before = take (c.min.result - 0) c.args.text.now in
    let i = c.loop-byte.byte-index in
    elim c.if-byte-eq10.branch [
      | then-byte-eq10 w ↦ behind_newline before i c.loop-byte-test.true w.if-byte-eq10.true (w.line-is ∙ w.saturating_add-line.ensures) w.column-is c.loop-byte.invariant
      | else-byte-eq10 w ↦ behind_other before i c.loop-byte-test.true w.if-byte-eq10.false w.line-is (w.column-is ∙ w.saturating_add-column.ensures) c.loop-byte.invariant
    ]

pub returns : goal.returns
returns c =
    let all = behind_all c.args.text.now c.args.at c.min.result c.loop-byte.byte-index c.min.ensures c.loop-byte-test.false c.loop-byte.invariant in
    record { line = all.line_is; column = all.column_is; wrong = refl }
