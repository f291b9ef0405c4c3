use Rattle.std.proofs.Common.{refl}
use Rattle.clear.proofs.ViewNodes.{finds_literal, literal_nowhere, no_shown, no_fresh}
use Rattle.clear.proofs.fill.fill_literal.Goals as goal

pub returns-in_err-fresh : goal.returns-in_err-fresh
returns-in_err-fresh c =
    record {
      fills = rw c.from_residual-in_err-fresh.ensures (literal_nowhere (no_shown c.in_ok-shown.ensures c.in_err-fresh.ensures));
      bounded = c.requires.ready.bounded;
    }

pub returns-in_err-end : goal.returns-in_err-end
returns-in_err-end c =
    record {
      fills = rw c.from_residual-in_err-end.ensures (literal_nowhere (no_fresh c.in_ok-shown.ensures c.in_ok-fresh.ensures c.in_err-end.ensures));
      bounded = c.requires.ready.bounded;
    }

pub returns : goal.returns
returns c =
    record {
      fills = finds_literal c.in_ok-shown.ensures c.in_ok-fresh.ensures c.in_ok-end.ensures c.put_step.ensures c.in_ok-fill_text.ensures.fills refl c.known.ensures;
      bounded = c.in_ok-fill_text.ensures.bounded;
    }
