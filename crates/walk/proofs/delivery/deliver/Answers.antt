use Rattle.std.proofs.Common.{arith, rules}
use Rattle.walk.proofs.Giving.{more_taken}
use Rattle.walk.proofs.Writing.{wrote_back}
use Rattle.walk.proofs.Delivering.{delivered}
use Rattle.walk.proofs.delivery.deliver.Goals as goal

pub returns : goal.returns
returns g c =
    delivered (λ u w. g.G.Give.one _ u w c.requires) (omega arith) (grind arith) c.give.ensures
    (more_taken (λ u took. let stays = took.0 in wrote_back (search rules) took.1) c.give-2.ensures)
