use Rattle.std.proofs.Common.{◌≡◌, ◌+◌, ◌*◌, ◌/◌, ◌%◌, ap, subst, arith}
use Rattle.std.proofs.lemmas.Nat.{one_shl}
use Rattle.recall.specs.Slots.{Copies}
use Rattle.recall.proofs.Rows.{part_word, copies_word, copies_rest}
use Rattle.recall.proofs.memory.Memory.copy.Goals as goal

pub loop-word-preserved : goal.loop-word-preserved
loop-word-preserved c =
    let first = c.args.slot * c.slot_words.result in
    let value = part_word c.args.self.now.rows.now first (first + c.args.self.now.tree.size / 32) c.loop-word.word (omega arith) in
    copies_word (ap (λ w. c.args.slot * w) c.slot_words.ensures) c.loop-word.word (omega arith) value c.loop-word.invariant c.put_bits.ensures

pub returns-then-rest-gt0 : goal.returns-then-rest-gt0
returns-then-rest-gt0 c =
    let memory = c.args.self.now in
    let size = memory.tree.size in
    let all : c.loop-word.word ≡ size / 32 = omega (arith, c.loop-word.auto.word-end) in
    let copied : Copies size memory.rows.now c.args.slot c.args.bits.now c.loop-word.bits c.args.row (32 * (size / 32)) =
    subst (λ w. Copies size memory.rows.now c.args.slot c.args.bits.now c.loop-word.bits c.args.row (32 * w)) all c.loop-word.invariant
    in
    copies_rest (ap (λ w. c.args.slot * w) c.slot_words.ensures) (one_shl (size % 32) 32 (omega arith)) copied c.put_bits-then-rest-gt0.ensures
