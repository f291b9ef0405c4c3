use Rattle.std.proofs.Common.{vec_items, ap, ◌∙◌, arith}
use Rattle.std.specs.List.{insert}
use Rattle.notation.proofs.Building.{longer, length_inserted}
use Rattle.notation.proofs.row.Row.tag.Goals as goal
use Rattle.notation.proofs.row.Row.tag.Goals.{then-total-le-LONGEST+in_ok-insert, else-total-le-LONGEST}

pub returns : goal.returns
returns c = record {
  grows = omega (arith, c.saturating_add-total.ensures);
  becomes = longer (λ s. insert s c.args.at c.args.tag) 1 _ _ _ _ (length_inserted c.args.at c.args.tag) c.saturating_add-total.ensures
      (λ room. elim c.if-total-le-LONGEST.branch [
        | then-total-le-LONGEST+in_ok-insert w ↦ ap (λ p. vec_items p.1.0) w.self-is ∙ w.in_ok-insert.ensures.items
        | else-total-le-LONGEST w ↦ absurd (omega (arith, c.saturating_add-total.ensures, w.if-total-le-LONGEST.false))
      ]);
}
