use Rattle.bits.proofs.Fields.{puts_field}
use Rattle.bits.proofs.put_field.Goals as goal

pub returns : goal.returns
returns c = rw c.with_field.ensures (puts_field c.args.words.now c.args.word c.args.low c.args.len c.args.value c.requires.inside c.requires.within c.requires.fits)
