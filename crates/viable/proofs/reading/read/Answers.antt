use Rattle.std.proofs.Common.{sym, refl, ◌∙◌, inl, inr, arith}
use Rattle.viable.proofs.Following.{reads_fits, reads_breaks}
use Rattle.viable.proofs.reading.read.Goals as goal

pub returns-then-ends : goal.returns-then-ends
returns-then-ends c =
    rw (← c.new.ensures.table) (reads_fits c.new.result.table.now _ c.new.result.stays (omega arith) c.args.text.now c.follow-at.ensures (omega arith)
    (omega (arith, c.if-at-text.true)) (sym c.get-ends.ensures ∙ c.if-ends.true))

pub returns : goal.returns
returns c =
    rw (← c.new.ensures.table) (reads_breaks c.new.result.table.now _ c.new.result.stays (omega arith) c.args.text.now c.follow-at.ensures (omega arith)
    _ refl c.get-ends.ensures c.expected.ensures
    (λ all. elim c.else-at-text.either [ inl (_, off) ↦ sym c.get-ends.ensures ∙ off | inr short ↦ absurd (short (omega (arith, c.follow-at.ensures.within))) ]))
