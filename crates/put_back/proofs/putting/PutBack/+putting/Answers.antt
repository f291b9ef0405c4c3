use Rattle.std.proofs.Common.{◌≡◌, ◌+◌, ◌-◌, ◌*◌, ◌<◌, length, arith}
use Rattle.walk.proofs.Descending.{first_walks}
use Rattle.put_back.proofs.Descending.{falls, source_piece, look_piece}
use Rattle.put_back.proofs.Joining.{copy_puts, hide_puts, then_puts, swap_puts, left_puts, right_puts, to_left_puts, to_right_puts, each_puts}
use Rattle.put_back.proofs.Going.{walks_inside, go_first, go_second, go_swapped_first, go_swapped_second, go_left, go_right, go_to_left, go_to_right, go_parts, go_next, go_part}
use Rattle.put_back.proofs.Series.{next_made, next_put, all_more, all_done}
use Rattle.put_back.proofs.putting.PutBack.+putting.Goals as goal

-- Views without views in them

pub put_part-give_part-requires : goal.put_part-give_part-requires
put_part-give_part-requires g t c =
    let p = look_piece c.args.self.now.pair c.requires.both.in_look in
    record { ordered = p.0; inside = p.1 }

pub put_part-give_part-requires-in-Hide : goal.put_part-give_part-requires-in-Hide
put_part-give_part-requires-in-Hide g t c =
    let p = source_piece c.args.self.now.pair c.requires.both.in_source in
    record { ordered = p.0; inside = p.1 }

pub put_part-returns-in-Copy : goal.put_part-returns-in-Copy
put_part-returns-in-Copy g t c = λ v w. copy_puts c.args.self.now.pair (rw c.in-Copy.is at c.in-Some.ensures) c.give_part.ensures w

pub put_part-returns-in-Hide : goal.put_part-returns-in-Hide
put_part-returns-in-Hide g t c = λ v w. hide_puts c.args.self.now.pair (rw c.in-Hide.is at c.in-Some.ensures) c.give_part-in-Hide.ensures w

-- One after the other

pub put_part-put_part-requires : goal.put_part-put_part-requires
put_part-put_part-requires g t c κs within =
    let tag = rw c.in-Then.is at c.in-Some.ensures in
    let go = go_first c.args.self.now.pair c.second_of-second.ensures c.requires c.split.ensures c.split-in-Then.ensures c.end_of.ensures tag c.end_of-in-Then.ensures in
    let l = falls (walks_inside c.requires) go.1 c.decreases in
    (omega (arith, l), (within, go.0))

pub put_part-put_part-requires-in-Then : goal.put_part-put_part-requires-in-Then
put_part-put_part-requires-in-Then g t c κs within =
    let tag = rw c.in-Then.is at c.in-Some.ensures in
    let go = go_second c.args.self.now.pair c.second_of-second.ensures c.requires c.split.ensures c.split-in-Then.ensures c.end_of.ensures tag c.end_of-in-Then.ensures in
    let l = falls (walks_inside c.requires) go.1 c.decreases in
    (omega (arith, l), (within, go.0))

pub put_part-returns-in-Then : goal.put_part-returns-in-Then
put_part-returns-in-Then g t c = λ v w.
    then_puts c.args.self.now.pair c.second_of-second.ensures (g.S.Sink.both _ _ _) (rw c.in-Then.is at c.in-Some.ensures)
    c.end_of.ensures c.end_of-in-Then.ensures c.split.ensures c.split-in-Then.ensures c.put_part.ensures c.put_part-in-Then.ensures w

-- One after the other, the looks in the other order

pub put_part-put_part-requires-in-Swap : goal.put_part-put_part-requires-in-Swap
put_part-put_part-requires-in-Swap g t c κs within =
    let tag = rw c.in-Swap.is at c.in-Some.ensures in
    let go = go_swapped_first c.args.self.now.pair c.second_of-second-in-Swap.ensures c.requires c.split-in-Swap.ensures c.split-in-Swap-2.ensures c.end_of-in-Swap.ensures tag c.end_of-in-Swap-2.ensures in
    let l = falls (walks_inside c.requires) go.1 c.decreases in
    (omega (arith, l), (within, go.0))

pub put_part-put_part-requires-in-Swap-2 : goal.put_part-put_part-requires-in-Swap-2
put_part-put_part-requires-in-Swap-2 g t c κs within =
    let tag = rw c.in-Swap.is at c.in-Some.ensures in
    let go = go_swapped_second c.args.self.now.pair c.second_of-second-in-Swap.ensures c.requires c.split-in-Swap.ensures c.split-in-Swap-2.ensures c.end_of-in-Swap.ensures tag c.end_of-in-Swap-2.ensures in
    let l = falls (walks_inside c.requires) go.1 c.decreases in
    (omega (arith, l), (within, go.0))

pub put_part-returns-in-Swap : goal.put_part-returns-in-Swap
put_part-returns-in-Swap g t c = λ v w.
    swap_puts c.args.self.now.pair c.second_of-second-in-Swap.ensures (g.S.Sink.both _ _ _) (rw c.in-Swap.is at c.in-Some.ensures)
    c.end_of-in-Swap.ensures c.end_of-in-Swap-2.ensures c.split-in-Swap.ensures c.split-in-Swap-2.ensures c.put_part-in-Swap.ensures c.put_part-in-Swap-2.ensures w

-- One or the other

pub put_part-put_part-requires-then-takes_first-2 : goal.put_part-put_part-requires-then-takes_first-2
put_part-put_part-requires-then-takes_first-2 g t c κs within =
    let go = go_left c.args.self.now.pair c.second_of-second-in-Either.ensures c.requires (rw c.in-Either.is at c.in-Some.ensures) c.if-takes_first.ensures c.if-takes_first-2.ensures in
    let l = falls (walks_inside c.requires) go.1 c.decreases in
    (omega (arith, l), (within, go.0))

pub put_part-make_part-requires : goal.put_part-make_part-requires
put_part-make_part-requires g t c =
    go_to_left c.args.self.now.pair c.second_of-second-in-Either.ensures c.requires (rw c.in-Either.is at c.in-Some.ensures) c.if-takes_first.ensures

pub put_part-make_part-requires-then-takes_first-3 : goal.put_part-make_part-requires-then-takes_first-3
put_part-make_part-requires-then-takes_first-3 g t c =
    go_to_right c.args.self.now.pair c.second_of-second-in-Either.ensures c.requires (rw c.in-Either.is at c.in-Some.ensures) c.if-takes_first.ensures

pub put_part-put_part-requires-else-takes_first-3 : goal.put_part-put_part-requires-else-takes_first-3
put_part-put_part-requires-else-takes_first-3 g t c κs within =
    let go = go_right c.args.self.now.pair c.second_of-second-in-Either.ensures c.requires (rw c.in-Either.is at c.in-Some.ensures) c.if-takes_first.ensures c.if-takes_first-3.ensures in
    let l = falls (walks_inside c.requires) go.1 c.decreases in
    (omega (arith, l), (within, go.0))

pub put_part-returns-then-takes_first-2 : goal.put_part-returns-then-takes_first-2
put_part-returns-then-takes_first-2 g t c = λ v w.
    left_puts c.args.self.now.pair c.second_of-second-in-Either.ensures (rw c.in-Either.is at c.in-Some.ensures) c.if-takes_first.ensures c.if-takes_first-2.ensures c.put_part-then-takes_first-2.ensures w

pub put_part-returns-else-takes_first-2 : goal.put_part-returns-else-takes_first-2
put_part-returns-else-takes_first-2 g t c = λ v w.
    to_left_puts c.args.self.now.pair c.second_of-second-in-Either.ensures (rw c.in-Either.is at c.in-Some.ensures) c.if-takes_first.ensures c.if-takes_first-2.ensures c.make_part.ensures w

pub put_part-returns-then-takes_first-3 : goal.put_part-returns-then-takes_first-3
put_part-returns-then-takes_first-3 g t c = λ v w.
    to_right_puts c.args.self.now.pair c.second_of-second-in-Either.ensures (rw c.in-Either.is at c.in-Some.ensures) c.if-takes_first.ensures c.if-takes_first-3.ensures c.make_part-then-takes_first-3.ensures w

pub put_part-returns-else-takes_first-3 : goal.put_part-returns-else-takes_first-3
put_part-returns-else-takes_first-3 g t c = λ v w.
    right_puts c.args.self.now.pair c.second_of-second-in-Either.ensures (rw c.in-Either.is at c.in-Some.ensures) c.if-takes_first.ensures c.if-takes_first-3.ensures c.put_part-else-takes_first-3.ensures w

-- Any number of parts

pub put_part-put_each-requires : goal.put_part-put_each-requires
put_part-put_each-requires g t c κs within =
    let tag = rw c.in-Each.is at c.in-Some.ensures in
    let behind : c.args.place < c.in-Each.body = omega (arith, tag.behind) in
    let l = falls (walks_inside c.requires) behind c.decreases in
    (omega (arith, l), (within, go_parts c.args.self.now.pair tag c.requires))

pub put_part-returns-in-Each : goal.put_part-returns-in-Each
put_part-returns-in-Each g t c = λ v w. each_puts c.args.self.now.pair (rw c.in-Each.is at c.in-Some.ensures) c.put_each.ensures w

pub put_each-put_next-from-requires : goal.put_each-put_next-from-requires
put_each-put_next-from-requires g t c κs within =
    let m : 3 * (length c.args.self.now.row.bytes.now - c.args.place) + 2 ≡ t = c.decreases in
    let (left, rest, low, low', given) = c.parts.invariant c.requires.view c.requires.both in
    (omega arith, (within, go_next c.args.self.now.pair c.end_of-end.ensures c.parts-test.true (record { in_source = left; in_look = rest })))

pub put_each-parts-smaller : goal.put_each-parts-smaller
put_each-parts-smaller g t c =
    let rest = (c.parts.invariant c.requires.view c.requires.both).1 in
    let more = c.parts-test.true in
    let less = (first_walks c.end_of-end.ensures more rest).2 in
    omega arith

pub put_each-parts-preserved : goal.put_each-parts-preserved
put_each-parts-preserved g t c = λ v s.
    let (left, rest, low, low', given) = c.parts.invariant v s in
    let (first, others, less) = first_walks c.end_of-end.ensures c.parts-test.true rest in
    let next = c.put_next-from.ensures v (record { in_source = left; in_look = first }) in (
      next.left,
      others,
      omega (arith, low, next.onward),
      omega (arith, low', less),
      all_more c.args.self.now.pair c.args.old c.args.new low low' (omega (arith, less)) given next (g.S.Sink.both _ _ _),
    )

pub put_each-returns : goal.put_each-returns
put_each-returns g t c = λ v s. let (left, rest, low, low', given) = c.parts.invariant v s in all_done c.args.self.now.pair c.args.old c.args.new low c.parts-test.false left rest given

pub put_next-returns-then-rest : goal.put_next-returns-then-rest
put_next-returns-then-rest g t c = λ l n. next_made c.args.self.now.pair (omega arith) c.make_part.ensures n

pub put_next-put_part-requires : goal.put_next-put_part-requires
put_next-put_part-requires g t c κs within =
    let m : 3 * (length c.args.self.now.row.bytes.now - c.args.place) + 1 ≡ t = c.decreases in
    (omega arith, (within, go_part c.args.self.now.pair c.end_of-end.ensures (omega arith) c.requires.both))

pub put_next-returns : goal.put_next-returns
put_next-returns g t c = λ l n. next_put c.args.self.now.pair (omega arith) c.end_of-end.ensures c.put_part.ensures n
