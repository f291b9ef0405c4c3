use Rattle.std.proofs.Common.{◌≡◌, ◌≢◌, rules}
use Rattle.std.proofs.lemmas.Iterator.{first_from_Range}
use borrow.Author.Tests.{tests}
use Rattle.viable.specs.Bytes.{has_byte}
use Rattle.viable.proofs.Ranges.{run_end}
use Rattle.viable.proofs.bytes.ByteSet.run_end.Goals as goal

pub returns : goal.returns
returns c =
    rw c.unwrap_or.ensures (run_end _ _ _ c.find.result c.requires
    (first_from_Range _ _ _ c.find.result (λ x. has_byte c.args.self.now x ≢ c.args.inside) (λ x. has_byte c.args.self.now x ≡ c.args.inside) c.find.ensures.ran
    (λ x q k. search (rules, tests)) (λ x q k. search (rules, tests))))
