use Rattle.std.proofs.Common.{◌≡◌, ◌+◌, ◌-◌, ◌*◌, ◌<◌, length, le_refl, arith}
use Rattle.walk.proofs.Descending.{walk_piece, first_walks}
use Rattle.walk.proofs.Giving.{copy_gives, hide_gives, then_gives, swap_gives, left_gives, right_gives, each_gives, none_gives, more_gives, all_gives}
use Rattle.walk.proofs.Going.{falls, walks_inside, go_first, go_second, go_front, go_back, go_left, go_right, go_parts, go_part}
use Rattle.walk.proofs.turning.Turned.+turning.Goals as goal

-- Views without views in them

pub turn_part-give_part-requires : goal.turn_part-give_part-requires
turn_part-give_part-requires g t c =
    let p = walk_piece c.requires.walk in
    record { ordered = p.0; inside = p.1 }

pub turn_part-returns-in-Copy : goal.turn_part-returns-in-Copy
turn_part-returns-in-Copy g t c = λ v w. copy_gives (rw c.in-Copy.is at c.in-Some.ensures) c.give_part.ensures w

pub turn_part-returns-in-Hide : goal.turn_part-returns-in-Hide
turn_part-returns-in-Hide g t c = λ v w. hide_gives (rw c.in-Hide.is at c.in-Some.ensures) c.give_hidden.ensures w

-- One after the other

pub turn_part-turn_part-requires : goal.turn_part-turn_part-requires
turn_part-turn_part-requires g t c κs within =
    let go = go_first c.second_of-second.ensures (rw c.in-Then.is at c.in-Some.ensures) c.requires c.end_of.ensures in
    let l = falls (walks_inside c.requires) go.1 c.decreases in
    (omega (arith, l), (within, rw c.split.ensures go.0))

pub turn_part-turn_part-requires-in-Then : goal.turn_part-turn_part-requires-in-Then
turn_part-turn_part-requires-in-Then g t c κs within =
    let go = go_second c.second_of-second.ensures (rw c.in-Then.is at c.in-Some.ensures) c.requires c.end_of.ensures in
    let l = falls (walks_inside c.requires) go.1 c.decreases in
    (omega (arith, l), (within, rw c.split.ensures go.0))

pub turn_part-returns-in-Then : goal.turn_part-returns-in-Then
turn_part-returns-in-Then g t c = λ v w.
    then_gives (rw c.in-Then.is at c.in-Some.ensures) c.second_of-second.ensures c.end_of.ensures
    (rw c.split.ensures at c.turn_part.ensures) (rw c.split.ensures at c.turn_part-in-Then.ensures) (g.S.Sink.both _ _ _) w

-- One after the other, in the other order

pub turn_part-turn_part-requires-in-Swap : goal.turn_part-turn_part-requires-in-Swap
turn_part-turn_part-requires-in-Swap g t c κs within =
    let go = go_back c.second_of-second-in-Swap.ensures (rw c.in-Swap.is at c.in-Some.ensures) c.requires c.in_order-ahead.ensures c.end_of-in-Swap.ensures in
    let l = falls (walks_inside c.requires) go.1 c.decreases in
    (omega (arith, l), (within, rw c.split-in-Swap.ensures go.0))

pub turn_part-turn_part-requires-in-Swap-2 : goal.turn_part-turn_part-requires-in-Swap-2
turn_part-turn_part-requires-in-Swap-2 g t c κs within =
    let go = go_front c.second_of-second-in-Swap.ensures (rw c.in-Swap.is at c.in-Some.ensures) c.requires c.in_order-ahead.ensures c.end_of-in-Swap.ensures in
    let l = falls (walks_inside c.requires) go.1 c.decreases in
    (omega (arith, l), (within, rw c.split-in-Swap.ensures go.0))

pub turn_part-returns-in-Swap : goal.turn_part-returns-in-Swap
turn_part-returns-in-Swap g t c = λ v w.
    swap_gives (rw c.in-Swap.is at c.in-Some.ensures) c.second_of-second-in-Swap.ensures c.in_order-ahead.ensures
    c.end_of-in-Swap.ensures (rw c.split-in-Swap.ensures at c.turn_part-in-Swap.ensures) (rw c.split-in-Swap.ensures at c.turn_part-in-Swap-2.ensures) (g.S.Sink.both _ _ _) w

-- One or the other

pub turn_part-turn_part-requires-then-takes_first : goal.turn_part-turn_part-requires-then-takes_first
turn_part-turn_part-requires-then-takes_first g t c κs within =
    let go = go_left c.second_of-second-in-Either.ensures (rw c.in-Either.is at c.in-Some.ensures) c.requires c.if-takes_first.ensures in
    let l = falls (walks_inside c.requires) go.1 c.decreases in
    (omega (arith, l), (within, go.0))

pub turn_part-turn_part-requires-else-takes_first : goal.turn_part-turn_part-requires-else-takes_first
turn_part-turn_part-requires-else-takes_first g t c κs within =
    let go = go_right c.second_of-second-in-Either.ensures (rw c.in-Either.is at c.in-Some.ensures) c.requires c.if-takes_first.ensures in
    let l = falls (walks_inside c.requires) go.1 c.decreases in
    (omega (arith, l), (within, go.0))

pub turn_part-returns-then-takes_first : goal.turn_part-returns-then-takes_first
turn_part-returns-then-takes_first g t c = λ v w.
    left_gives (rw c.in-Either.is at c.in-Some.ensures) c.second_of-second-in-Either.ensures c.if-takes_first.ensures c.turn_part-then-takes_first.ensures w

pub turn_part-returns-else-takes_first : goal.turn_part-returns-else-takes_first
turn_part-returns-else-takes_first g t c = λ v w.
    right_gives (rw c.in-Either.is at c.in-Some.ensures) c.second_of-second-in-Either.ensures c.if-takes_first.ensures c.turn_part-else-takes_first.ensures w

-- Any number of parts

pub turn_part-turn_each-requires : goal.turn_part-turn_each-requires
turn_part-turn_each-requires g t c κs within =
    let tag = rw c.in-Each.is at c.in-Some.ensures in
    let behind : c.args.place < c.in-Each.body = omega (arith, tag.behind) in
    let l = falls (walks_inside c.requires) behind c.decreases in
    (omega (arith, l), (within, go_parts tag c.requires))

pub turn_part-returns-in-Each : goal.turn_part-returns-in-Each
turn_part-returns-in-Each g t c = λ v w. each_gives (rw c.in-Each.is at c.in-Some.ensures) c.turn_each.ensures w

pub turn_each-parts-init : goal.turn_each-parts-init
turn_each-parts-init g t c = λ v s. (s, le_refl _, none_gives c.args.self.now.cut.side v c.args.self.now.cut.scanned.text.now c.args.parts.at (g.S.Sink.none _))

pub turn_each-turn_part-requires : goal.turn_each-turn_part-requires
turn_each-turn_part-requires g t c κs within =
    let m : 2 * (length c.args.self.now.row.bytes.now - c.args.place) + 1 ≡ t = c.decreases in
    let s = (c.parts.invariant c.requires.view c.requires.parts).0 in
    (omega arith, (within, go_part c.end_of-next.ensures c.parts-test.true s))

pub turn_each-parts-smaller : goal.turn_each-parts-smaller
turn_each-parts-smaller g t c =
    let s = (c.parts.invariant c.requires.view c.requires.parts).0 in
    let more = c.parts-test.true in
    let less = (first_walks c.end_of-next.ensures more s).2 in
    omega arith

pub turn_each-parts-preserved : goal.turn_each-parts-preserved
turn_each-parts-preserved g t c = λ v s.
    let (rest, low, given) = c.parts.invariant v s in
    let (first, others, less) = first_walks c.end_of-next.ensures c.parts-test.true rest in (
      others,
      omega (arith, low, less),
      more_gives c.args.self.now.cut.scanned.text.now c.args.parts.at c.parts.from c.end_of-next.result low (omega (arith, less)) given (c.turn_part.ensures v first) (g.S.Sink.both _ _ _),
    )

pub turn_each-returns : goal.turn_each-returns
turn_each-returns g t c = λ v s. let (rest, low, given) = c.parts.invariant v s in all_gives c.args.parts.at rest c.parts-test.false given
