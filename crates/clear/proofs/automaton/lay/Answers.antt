use Rattle.std.proofs.Common.{rules}
use Rattle.clear.proofs.Telling.{lays}
use Rattle.clear.proofs.automaton.lay.Goals as goal

pub returns : goal.returns
returns c = record { lays = lays _ (λ k h. search rules) c.fill_view.ensures.fills; bounded = c.fill_view.ensures.bounded }
