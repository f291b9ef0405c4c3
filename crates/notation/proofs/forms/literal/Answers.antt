use Rattle.std.proofs.Common.{[], ◌∷◌, get_or, take}
use Rattle.lens.specs.Forms.{one}
use Rattle.rows.specs.Rows.{form_row}
use Rattle.notation.proofs.Spelling.{grown_then, grown_as, letters, letters_more, spelled_all}
use Rattle.notation.proofs.forms.literal.Goals as goal

pub loop-byte-preserved : goal.loop-byte-preserved
loop-byte-preserved c =
    let front = c.in-Some.front.now in
    let i = c.loop-byte.byte-index in
    let pushed = c.in_ok-push-2.ensures in
    grown_as (letters_more front i c.loop-byte-test.true)
    (grown_then (letters (take i front)) (2 ∷ 1 ∷ get_or front i 0 ∷ get_or front i 0 ∷ []) c.loop-byte.invariant
    (grown_then (2 ∷ []) (1 ∷ get_or front i 0 ∷ get_or front i 0 ∷ []) pushed c.in_ok-range.ensures))

pub returns : goal.returns
returns c =
    let front = c.in-Some.front.now in
    let last = c.in-Some.last.now in
    let i = c.loop-byte.byte-index in
    grown_as (spelled_all _ front last i c.in-Some.ensures.cases.0 c.loop-byte-test.false)
    (grown_then (letters (take i front)) (form_row (one last last)) c.loop-byte.invariant c.in_ok-range-2.ensures)
