use Rattle.std.proofs.Common.{refl}
use Rattle.clear.proofs.ViewNodes.{finds_hidden, hidden_nowhere, hidden_unlaid, no_shown}
use Rattle.clear.proofs.fill.fill_hidden.Goals as goal

pub returns-in_err-fresh : goal.returns-in_err-fresh
returns-in_err-fresh c =
    record {
      fills = rw c.from_residual-in_err-fresh.ensures (hidden_nowhere (no_shown c.in_ok-shown.ensures c.in_err-fresh.ensures));
      bounded = c.requires.ready.bounded;
    }

pub returns-in_err-end : goal.returns-in_err-end
returns-in_err-end c =
    record {
      fills = rw c.from_residual-in_err-end.ensures (hidden_unlaid c.in_ok-shown.ensures c.in_ok-fresh.ensures c.in_err-end.ensures.fills);
      bounded = c.in_err-end.ensures.bounded;
    }

pub returns : goal.returns
returns c =
    record {
      fills = finds_hidden c.in_ok-shown.ensures c.in_ok-fresh.ensures c.put_step.ensures c.in_ok-fill_form.ensures.fills c.in_ok-end.ensures.fills (rw c.laid.ensures.table at c.meets-fits.ensures) refl;
      bounded = c.in_ok-end.ensures.bounded;
    }
