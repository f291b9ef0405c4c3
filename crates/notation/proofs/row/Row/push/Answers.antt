use Rattle.std.proofs.Common.{[], ◌∷◌, ◌++◌, vec_items, ap, ◌∙◌, arith, length-append}
use Rattle.notation.proofs.Building.{longer}
use Rattle.notation.proofs.row.Row.push.Goals as goal
use Rattle.notation.proofs.row.Row.push.Goals.{then-total-le-LONGEST+in_ok-push, else-total-le-LONGEST}

pub returns : goal.returns
returns c = record {
  grows = omega (arith, c.saturating_add-total.ensures);
  becomes = longer (λ s. s ++ c.args.byte ∷ []) 1 _ _ _ _ (λ s. length-append s (c.args.byte ∷ [])) c.saturating_add-total.ensures
      (λ room. elim c.if-total-le-LONGEST.branch [
        | then-total-le-LONGEST+in_ok-push w ↦ ap (λ p. vec_items p.1.0) w.self-is ∙ w.in_ok-push.ensures.items
        | else-total-le-LONGEST w ↦ absurd (omega (arith, c.saturating_add-total.ensures, w.if-total-le-LONGEST.false))
      ]);
}
