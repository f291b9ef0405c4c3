use Rattle.std.proofs.Common.{◌≡◌, not, ◌&&◌, refl, ap, ap₂, ◌∙◌}
use Rattle.rows.specs.Rows.{view_row, ViewFine}
use Rattle.rows.proofs.Builds.{nowhere_first, nowhere_tagged}
use Rattle.rows.proofs.Tags.{builds_then, builds_swap, builds_either}
use Rattle.clear.proofs.ViewNodes.{finds_series, finds_turned, finds_choice, finds_parts}
use Rattle.clear.proofs.Views.{view_nowhere, view_copy, view_hidden, view_literal, view_then, view_swap, view_turned, view_either, view_each}
use Rattle.clear.proofs.fill.+filling.Goals as goal

-- Two views and their condition
pub fill_series-returns : goal.fill_series-returns
fill_series-returns t c =
    let told : c.bitand-2.result.yes ≡ (c.in_ok-front.front.yes && c.in_ok-end.back.yes) && not c.crosses-crossed.result.yes = c.bitand-2.ensures ∙ ap₂ ◌&&◌ c.bitand.ensures c.not.ensures in
    record {
      fills = finds_series c.requires.second_after refl told c.put_step.ensures c.in_ok-front.ensures.fills c.in_ok-end.ensures.fills (rw c.laid.ensures.table at c.crosses-crossed.ensures);
      bounded = c.in_ok-end.ensures.bounded;
    }

pub fill_turned-returns : goal.fill_turned-returns
fill_turned-returns t c =
    let told : c.bitand-2.result.yes ≡ (c.in_ok-back.back.yes && c.in_ok-end.front.yes) && not c.crosses-crossed.result.yes = c.bitand-2.ensures ∙ ap₂ ◌&&◌ c.bitand.ensures c.not.ensures in
    record {
      fills = finds_turned c.requires.second_after refl told c.put_step.ensures c.in_ok-back.ensures.fills c.in_ok-end.ensures.fills (rw c.laid.ensures.table at c.crosses-crossed.ensures);
      bounded = c.in_ok-end.ensures.bounded;
    }

pub fill_choice-returns : goal.fill_choice-returns
fill_choice-returns t c =
    let told : c.bitand-2.result.yes ≡ (c.in_ok-left.left.yes && c.in_ok-end.right.yes) && not c.meets-both.result.yes = c.bitand-2.ensures ∙ ap₂ ◌&&◌ c.bitand.ensures c.not.ensures in
    record {
      fills = finds_choice c.requires.second_after refl told c.put_step.ensures c.in_ok-left.ensures.fills c.in_ok-end.ensures.fills (rw c.laid.ensures.table at c.meets-both.ensures);
      bounded = c.in_ok-end.ensures.bounded;
    }

-- Parts and their conditions
pub fill_parts-returns : goal.fill_parts-returns
fill_parts-returns t c =
    let told : c.bitand-2.result.yes ≡ c.in_ok-end.body.yes && (not c.meets-empty.result.yes && not c.crosses-crossed.result.yes) =
    c.bitand-2.ensures ∙ ap (λ b. c.in_ok-end.body.yes && b) (c.bitand.ensures ∙ ap₂ ◌&&◌ c.not.ensures c.not-2.ensures)
    in
    record {
      fills = finds_parts refl told c.put_step.ensures c.in_ok-end.ensures.fills (rw c.laid.ensures.table at c.meets-empty.ensures) (rw c.laid-2.ensures.table at c.crosses-crossed.ensures);
      bounded = c.in_ok-end.ensures.bounded;
    }

-- Views, by their tags
pub fill_view-returns-in-Copy : goal.fill_view-returns-in-Copy
fill_view-returns-in-Copy t c =
    record {
      fills = view_copy c.args.side (rw c.in-Copy.is at c.in_ok-view_node.ensures) c.fill_copy.ensures.fills;
      bounded = c.fill_copy.ensures.bounded;
    }

pub fill_view-returns-in-Source : goal.fill_view-returns-in-Source
fill_view-returns-in-Source t c =
    record {
      fills = rw c.in-Source.is (view_hidden (rw c.in-Hide.is at c.in_ok-view_node.ensures) c.fill_hidden.ensures.fills);
      bounded = c.fill_hidden.ensures.bounded;
    }

pub fill_view-returns-in-Look : goal.fill_view-returns-in-Look
fill_view-returns-in-Look t c =
    record {
      fills = rw c.in-Look.is (view_literal (rw c.in-Hide.is at c.in_ok-view_node.ensures) c.fill_literal.ensures.fills);
      bounded = c.fill_literal.ensures.bounded;
    }

pub fill_view-returns-in_err-second-in-Then : goal.fill_view-returns-in_err-second-in-Then
fill_view-returns-in_err-second-in-Then t c =
    record {
      fills = rw c.from_residual-in_err-second-in-Then.ensures (view_nowhere (nowhere_tagged builds_then (rw c.in-Then.is at c.in_ok-view_node.ensures) (nowhere_first view_row ViewFine view_row ViewFine c.in_err-second-in-Then.ensures)));
      bounded = c.requires.ready.bounded;
    }

pub fill_view-returns-in_ok-second-in-Then : goal.fill_view-returns-in_ok-second-in-Then
fill_view-returns-in_ok-second-in-Then t c =
    record {
      fills = view_then c.args.side (rw c.in-Then.is at c.in_ok-view_node.ensures) c.in_ok-second-in-Then.ensures c.fill_series.ensures.fills;
      bounded = c.fill_series.ensures.bounded;
    }

pub fill_view-returns-in_err-second-in-Swap : goal.fill_view-returns-in_err-second-in-Swap
fill_view-returns-in_err-second-in-Swap t c =
    record {
      fills = rw c.from_residual-in_err-second-in-Swap.ensures (view_nowhere (nowhere_tagged builds_swap (rw c.in-Swap.is at c.in_ok-view_node.ensures) (nowhere_first view_row ViewFine view_row ViewFine c.in_err-second-in-Swap.ensures)));
      bounded = c.requires.ready.bounded;
    }

pub fill_view-returns-in-Source-side : goal.fill_view-returns-in-Source-side
fill_view-returns-in-Source-side t c =
    record {
      fills = rw c.in-Source-side.is (view_swap (rw c.in-Swap.is at c.in_ok-view_node.ensures) c.in_ok-second-in-Swap.ensures (rw c.in-Source-side.is at c.fill_series-in-Source-side.ensures.fills));
      bounded = c.fill_series-in-Source-side.ensures.bounded;
    }

pub fill_view-returns-in-Look-side : goal.fill_view-returns-in-Look-side
fill_view-returns-in-Look-side t c =
    record {
      fills = rw c.in-Look-side.is (view_turned (rw c.in-Swap.is at c.in_ok-view_node.ensures) c.in_ok-second-in-Swap.ensures (rw c.in-Look-side.is at c.fill_turned.ensures.fills));
      bounded = c.fill_turned.ensures.bounded;
    }

pub fill_view-returns-in_err-second-in-Either : goal.fill_view-returns-in_err-second-in-Either
fill_view-returns-in_err-second-in-Either t c =
    record {
      fills = rw c.from_residual-in_err-second-in-Either.ensures (view_nowhere (nowhere_tagged builds_either (rw c.in-Either.is at c.in_ok-view_node.ensures) (nowhere_first view_row ViewFine view_row ViewFine c.in_err-second-in-Either.ensures)));
      bounded = c.requires.ready.bounded;
    }

pub fill_view-returns-in_ok-second-in-Either : goal.fill_view-returns-in_ok-second-in-Either
fill_view-returns-in_ok-second-in-Either t c =
    record {
      fills = view_either c.args.side (rw c.in-Either.is at c.in_ok-view_node.ensures) c.in_ok-second-in-Either.ensures c.fill_choice.ensures.fills;
      bounded = c.fill_choice.ensures.bounded;
    }

pub fill_view-returns-in-Each : goal.fill_view-returns-in-Each
fill_view-returns-in-Each t c =
    record {
      fills = view_each c.args.side (rw c.in-Each.is at c.in_ok-view_node.ensures) c.fill_parts.ensures.fills;
      bounded = c.fill_parts.ensures.bounded;
    }
