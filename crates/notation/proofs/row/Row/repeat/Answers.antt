use Rattle.std.proofs.Common.{◌≡◌, ◌≤◌, ◌++◌, length, vec_items, ap, ◌∙◌, arith}
use Rattle.notation.proofs.Building.{twice, to_end}
use Rattle.notation.proofs.row.Row.repeat.Goals as goal
use Rattle.notation.proofs.row.Row.repeat.Goals.{then-total-le-LONGEST+in_ok-extend_from_within, else-total-le-LONGEST}

pub returns : goal.returns
returns c = record {
  grows = omega (arith, c.saturating_add-total.ensures);
  becomes = twice c.args.at _ _ _ _ c.requires c.saturating_add-total.ensures
      (λ room. elim c.if-total-le-LONGEST.branch [
        | then-total-le-LONGEST+in_ok-extend_from_within w ↦
            let row = c.args.self.now in
            let small : row.total ≤ 1024 = omega (arith, c.saturating_add-total.ensures, w.if-total-le-LONGEST.true) in
            let long : length (vec_items row.bytes) ≡ row.total = omega (arith, row.bytes.ok.0, row.whole small) in
            ap (λ p. vec_items p.1.0) w.self-is ∙ w.in_ok-extend_from_within.ensures.items ∙ ap (λ t. vec_items row.bytes ++ t) (to_end c.args.at row.total _ long)
        | else-total-le-LONGEST w ↦ absurd (omega (arith, c.saturating_add-total.ensures, w.if-total-le-LONGEST.false))
      ]);
}
