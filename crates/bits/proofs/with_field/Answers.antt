use Rattle.std.proofs.Common.{arith}
use Rattle.bits.proofs.Fields.{field_lt, field_is}
use Rattle.bits.proofs.with_field.Goals as goal

pub overflow_add-result-2 : goal.overflow_add-result-2
overflow_add-result-2 c =
    let is = field_is c.args.word c.args.low c.args.len c.args.value (omega arith) c.requires.within c.requires.fits in
    let l = field_lt c.args.word c.args.low c.args.len c.args.value (omega arith) c.requires.within c.requires.fits in
    omega arith

pub overflow_cast-result-2 : goal.overflow_cast-result-2
overflow_cast-result-2 c =
    let is = field_is c.args.word c.args.low c.args.len c.args.value (omega arith) c.requires.within c.requires.fits in
    let l = field_lt c.args.word c.args.low c.args.len c.args.value (omega arith) c.requires.within c.requires.fits in
    omega arith

pub returns : goal.returns
returns c = field_is c.args.word c.args.low c.args.len c.args.value (omega arith) c.requires.within c.requires.fits
