-- The theorems that the calls promise with what they answer.
use Rattle.lens.specs.Laws.{ClearWorks, ClearLawful, ClearLasting}
use Rattle.rows.specs.Rows.{OneView}
use Rattle.automata.specs.Told.{Told}

-- Bytes say at most one view; it can be told of every view whether it is clear; a clear view shows, makes and puts
-- back in one way; it has the laws of a lens; and they last over any sequence of edits.
pub record Theorems : Type 0 where
  pub one_view : OneView
  pub told : Told
  pub works : ClearWorks
  pub lawful : ClearLawful
  pub lasting : ClearLasting
