use Rattle.std.proofs.Common.{◌≡◌, ◌+◌, ◌-◌, ◌*◌, ◌/◌, ◌%◌, ◌^◌, ◌<◌, sym, subst, arith, shr_lt}
use Rattle.std.proofs.lemmas.Nat.{one_shl}
use Rattle.bits.specs.Bits.{PutsBits}
use Rattle.bits.proofs.Fields.{puts_two}
use Rattle.bits.proofs.put_bits.Goals as goal

pub put_field-requires : goal.put_field-requires
put_field-requires c = record { within = c.if-low-len-le32.true; inside = omega arith; fits = c.requires.fits }

pub put_field-requires-3 : goal.put_field-requires-3
put_field-requires-3 c =
    let here = 32 - c.args.at % 32 in
    let all : (c.args.len - here) + here ≡ c.args.len = omega arith in
    record {
      within = omega arith;
      inside = omega arith;
      fits = shr_lt (c.args.len - here) here (subst (λ n. c.args.value < 2 ^ n) (sym all) c.requires.fits);
    }

pub returns-then-low-len-le32 : goal.returns-then-low-len-le32
returns-then-low-len-le32 c =
    let at : 32 * (c.args.at / 32) + c.args.at % 32 ≡ c.args.at = omega arith in
    subst (λ k. PutsBits c.args.words.now k c.args.len c.args.value c.put_field.new.words) at c.put_field.ensures

pub returns : goal.returns
returns c =
    let at : 32 * (c.args.at / 32) + c.args.at % 32 ≡ c.args.at = omega arith in
    let here = 32 - c.args.at % 32 in
    let mask : (1 * 2 ^ here) % 2 ^ 32 ≡ 2 ^ here = one_shl here 32 (omega arith) in
    let low : PutsBits c.args.words.now c.args.at here (c.args.value % 2 ^ here) c.put_field-2.new.words =
    subst (λ k. PutsBits c.args.words.now k here (c.args.value % 2 ^ here) c.put_field-2.new.words) at
    (subst (λ p. PutsBits c.args.words.now (32 * (c.args.at / 32) + c.args.at % 32) here (c.args.value % p) c.put_field-2.new.words) mask
    c.put_field-2.ensures)
    in
    puts_two here (32 * (c.args.at / 32 + 1) + 0) (omega arith) (omega arith) low c.put_field-3.ensures
