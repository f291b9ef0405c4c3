use Rattle.std.proofs.Common.{refl, ap}
use Rattle.walk.proofs.Going.{go_whole}
use Rattle.views.proofs.Cuts.{encoded_some}
use Rattle.views.proofs.cutting.cut_text.Goals as goal

pub invariant_of-tree : goal.invariant_of-tree
invariant_of-tree c =
    let row = c.requires.clear in
    record { ready = ∣ record { linked = c.grow.ensures.linked row.view row.encodes; inside = encoded_some row.encodes; nulls = c.mark_null.ensures } ∣₁ }

pub returns : goal.returns
returns c =
    let made = c.scan-scanned.ensures in
    let marked = c.if-not-mark_all.ensures in
    record {
      side_is = refl;
      text_is = made.text;
      walk = λ v e.
          go_whole e (ap (λ t. t.root) made.tree) (rw made.tree (c.grow.ensures.planted v e))
          ((marked.accepts.tells _ (rw made.tree (c.grow.ensures.grows v e))).0 refl) (marked.marked refl);
    }
