-- When the bytes as a whole are a view's row.
use Rattle.std.proofs.Common.{ℕ, ◌≢◌, List, [], length, drop, Some, None, Option, sym, ap, ◌∙◌, append-nil, arith, length-drop}
use Rattle.lens.specs.Views.{View}
use Rattle.rows.specs.Rows.{view_row, ViewFine, Encodes}
use Rattle.rows.specs.Stands.{Stands, Nowhere}
use Rattle.std.specs.Option.{is_some}
use Rattle.rows.specs.declared.row.Row.{Row}
use Rattle.rows.specs.Reads.{IsView, Read}
use Rattle.rows.proofs.Unique.{splits_view, one_view}

module _ {s : List ℕ} where
  pub whole_none : Nowhere view_row ViewFine s 0 → (v : View) → Encodes s v → ⊥
  whole_none n v e = n.never v [] e.fine (sym e.row ∙ sym (append-nil (view_row v)))

  -- A view stands at the front, and it is all there is exactly if it ends with the row.
  module _ {e : ℕ} (a : Stands view_row ViewFine s 0 e) where
    pub whole_more : e ≢ length s → (v : View) → Encodes s v → ⊥
    whole_more more v b =
        let same = (splits_view a.thing).only v (drop e s) [] (sym a.laid ∙ sym b.row ∙ sym (append-nil (view_row v))) in
        more (omega (arith, a.within, ap length same.1, length-drop e s))

-- Whether some row was read
pub is_view_read : {s : List ℕ} (r : Option Row) → Read s r → IsView s (is_some r)
is_view_read (Some row) read = record { says = read.1; one = one_view }
is_view_read None read = record { says = read; one = one_view }
