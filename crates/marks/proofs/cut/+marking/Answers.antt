use Rattle.std.proofs.Common.{◌≡◌, ℕ, ◌+◌, ◌-◌, ◌*◌, ◌<◌, ◌≤◌, List, length, sym, ◌∙◌, inl, inr, arith}
use Rattle.trees.specs.Nodes.{Under}
use Rattle.trees.proofs.Kept.{ready_of}
use Rattle.trees.proofs.Tables.{row_within}
use Rattle.marks.proofs.Places.{here_inside, here_under, here_none, here_empty, here_byte, here_first, here_second, here_left, here_right, here_many, here_same, inner_ends, here_more, more_moves, here_behind}
use Rattle.marks.proofs.Passing.{fresh_later, fresh_behind, passes_none, passes_some, passes_node, passes_one, passes_byte, passes_seq, passes_left, passes_right, passes_many, passes_same, run_more, run_fresh, run_all}
use Rattle.marks.proofs.cut.+marking.Goals as goal

-- A part stands behind its node.
falls : {n q x t : ℕ} {words : List ℕ} → Under n words q x → 3 * (n - q) ≡ t → 3 * (n - x) + 2 < t
falls u m = omega (arith, u.behind, u.below)

next : {n q x : ℕ} {words : List ℕ} → Under n words q x → q + 1 ≤ x
next u = omega (arith, u.behind)

-- What each of the calls asks for: a smaller measure, and what its clauses say, in their order.
asked : {A B C D : Type 0} → A → B → C → D → A × (B × (C × D))
asked less room fresh here = (less, (room, (fresh, here)))

-- What a part is made of

pub mark_inner-mark_part-requires : goal.mark_inner-mark_part-requires
mark_inner-mark_part-requires t c =
    let u = here_under _ _ c.requires.here c.in-Byte.ensures in
    let l = falls u c.decreases in
    asked (omega arith) c.requires.room (fresh_later (omega arith) c.requires.fresh)
    (here_byte _ c.requires.here c.requires.some c.in-Byte.ensures)

pub mark_inner-mark_part-middle-requires : goal.mark_inner-mark_part-middle-requires
mark_inner-mark_part-middle-requires t c =
    let us = here_under _ _ c.requires.here c.in-Seq.ensures in
    let l = falls us.0 c.decreases in
    asked (omega arith) c.requires.room c.requires.fresh
    (here_first _ c.requires.here c.in-Seq.ensures)

pub mark_inner-mark_part-requires-in-Seq : goal.mark_inner-mark_part-requires-in-Seq
mark_inner-mark_part-requires-in-Seq t c =
    let us = here_under _ _ c.requires.here c.in-Seq.ensures in
    let l = falls us.1 c.decreases in
    asked (omega arith) (omega arith) (fresh_behind _ c.mark_part-middle.ensures)
    (here_second _ c.requires.here c.in-Seq.ensures c.mark_part-middle.ensures.cut)

pub mark_inner-mark_part-requires-then-begins_at :
    goal.mark_inner-mark_part-requires-then-begins_at
mark_inner-mark_part-requires-then-begins_at t c =
    let us = here_under _ _ c.requires.here c.in-Or.ensures in
    let l = falls us.0 c.decreases in
    asked (omega arith) c.requires.room c.requires.fresh
    (here_left _ c.requires.here c.in-Or.ensures (sym c.if-begins_at.ensures.begun))

pub mark_inner-mark_part-requires-else-begins_at :
    goal.mark_inner-mark_part-requires-else-begins_at
mark_inner-mark_part-requires-else-begins_at t c =
    let us = here_under _ _ c.requires.here c.in-Or.ensures in
    let l = falls us.1 c.decreases in
    asked (omega arith) c.requires.room c.requires.fresh
    (here_right _ c.requires.here c.requires.some c.in-Or.ensures (sym c.if-begins_at.ensures.begun))

pub mark_inner-mark_series-requires : goal.mark_inner-mark_series-requires
mark_inner-mark_series-requires t c =
    let u = here_under _ _ c.requires.here c.in-Many.ensures in
    asked (falls u c.decreases) c.requires.room c.requires.fresh
    (here_many _ c.requires.here c.in-Many.ensures)

pub mark_inner-mark_part-requires-in-Same : goal.mark_inner-mark_part-requires-in-Same
mark_inner-mark_part-requires-in-Same t c =
    let u = here_under _ _ c.requires.here c.in-Same.ensures in
    let l = falls u c.decreases in
    asked (omega arith) c.requires.room c.requires.fresh
    (here_same _ c.requires.here c.in-Same.ensures)

pub mark_inner-returns-in-None : goal.mark_inner-returns-in-None
mark_inner-returns-in-None t c =
    absurd (elim c.in-None.is [
      | inl e ↦ here_none _ c.requires.here c.requires.some (sym e ∙ c.node_at.ensures)
      | inr e ↦ here_empty _ c.requires.here c.requires.some (sym e ∙ c.node_at.ensures)
    ])

pub mark_inner-returns-in-One : goal.mark_inner-returns-in-One
mark_inner-returns-in-One t c = passes_node _ c.args.place c.in-One.ensures (passes_one _ c.requires.fresh)

pub mark_inner-returns-in-Byte : goal.mark_inner-returns-in-Byte
mark_inner-returns-in-Byte t c =
    let u = here_under _ _ c.requires.here c.in-Byte.ensures in
    passes_node _ c.args.place c.in-Byte.ensures (passes_byte _ (next u) c.mark_part.ensures)

pub mark_inner-returns-in-Seq : goal.mark_inner-returns-in-Seq
mark_inner-returns-in-Seq t c =
    let us = here_under _ _ c.requires.here c.in-Seq.ensures in
    passes_node _ c.args.place c.in-Seq.ensures
    (passes_seq _ (next us.0) (next us.1) c.mark_part-middle.ensures c.mark_part-in-Seq.ensures)

pub mark_inner-returns-then-begins_at : goal.mark_inner-returns-then-begins_at
mark_inner-returns-then-begins_at t c =
    let us = here_under _ _ c.requires.here c.in-Or.ensures in
    passes_node _ c.args.place c.in-Or.ensures
    (passes_left _ (next us.0) (sym c.if-begins_at.ensures.begun) c.mark_part-then-begins_at.ensures)

pub mark_inner-returns-else-begins_at : goal.mark_inner-returns-else-begins_at
mark_inner-returns-else-begins_at t c =
    let us = here_under _ _ c.requires.here c.in-Or.ensures in
    passes_node _ c.args.place c.in-Or.ensures
    (passes_right _ (next us.1) (sym c.if-begins_at.ensures.begun) c.mark_part-else-begins_at.ensures)

pub mark_inner-returns-in-Many : goal.mark_inner-returns-in-Many
mark_inner-returns-in-Many t c =
    let u = here_under _ _ c.requires.here c.in-Many.ensures in
    passes_node _ c.args.place c.in-Many.ensures (passes_many _ (next u) c.mark_series.ensures)

pub mark_inner-returns-in-Same : goal.mark_inner-returns-in-Same
mark_inner-returns-in-Same t c =
    let u = here_under _ _ c.requires.here c.in-Same.ensures in
    passes_node _ c.args.place c.in-Same.ensures (passes_same _ (next u) c.mark_part-in-Same.ensures)

-- Parts

pub mark_part-returns-then-not-begins_at : goal.mark_part-returns-then-not-begins_at
mark_part-returns-then-not-begins_at t c = passes_none _ (sym c.if-not-begins_at.ensures.begun) c.requires.fresh

pub mark_part-overflow_sub-end : goal.mark_part-overflow_sub-end
mark_part-overflow_sub-end t c =
    let ends = inner_ends _ c.requires.here (sym c.if-not-begins_at.ensures.begun) c.mark_inner-end.ensures.cut in
    omega (arith, ends.0)

pub mark_part-add_mark-requires : goal.mark_part-add_mark-requires
mark_part-add_mark-requires t c =
    let ends = inner_ends _ c.requires.here (sym c.if-not-begins_at.ensures.begun) c.mark_inner-end.ensures.cut in
    let within = row_within (c.mark_inner-end.result - 1) (length c.args.scanned.now.text.now) c.args.scanned.now.tree.size (omega (arith, ends.0, ends.1)) in
    record { inside = here_inside _ c.requires.here; room = omega arith; small = omega arith }

pub mark_part-returns : goal.mark_part-returns
mark_part-returns t c =
    let some = sym c.if-not-begins_at.ensures.begun in
    let ends = inner_ends _ c.requires.here some c.mark_inner-end.ensures.cut in
    passes_some _ (ready_of c.args.scanned.now.tree.ready).linked (here_inside _ c.requires.here) some c.requires.fresh ends.0
    c.mark_inner-end.ensures c.add_mark.ensures

-- Any number of parts

pub mark_series-mark_part-end-requires : goal.mark_series-mark_part-end-requires
mark_series-mark_part-end-requires t c =
    let m : 3 * (c.args.scanned.now.tree.size - c.args.place) + 2 ≡ t = c.decreases in
    asked (omega arith) (omega arith) (run_fresh _ c.parts.invariant.0)
    (here_more _ c.parts.invariant.1 (sym c.parts-test.ensures.begun))

pub mark_series-parts-smaller : goal.mark_series-parts-smaller
mark_series-parts-smaller t c =
    let s = sym c.parts-test.ensures.begun in
    let cut = c.mark_part-end.ensures.cut in
    let moves = more_moves _ c.parts.invariant.1 s cut in
    let within = (here_behind _ c.parts.invariant.1 s cut).within in
    omega arith

pub mark_series-parts-preserved : goal.mark_series-parts-preserved
mark_series-parts-preserved t c =
    let s = sym c.parts-test.ensures.begun in (
      run_more _ s c.parts.invariant.0 c.mark_part-end.ensures,
      here_behind _ c.parts.invariant.1 s c.mark_part-end.ensures.cut,
    )

pub mark_series-returns : goal.mark_series-returns
mark_series-returns t c = run_all _ (sym c.parts-test.ensures.begun) c.parts.invariant.0
