-- A row can be read in one way: nothing else begins as a form, a text or a view does.
use Rattle.std.proofs.Common.{◌≡◌, ℕ, List, [], ◌∷◌, ◌++◌, length, sym, refl, ◌∙◌, ap₂, append-nil, arith}
use Rattle.lens.specs.Forms.{Text, Form, empty, one, seq, or, many}
use Rattle.lens.specs.Views.{View, copy, hide, then, swap, either, each}
use Rattle.rows.specs.Rows.{form_row, view_row, text_row, OneView}
use Rattle.rows.specs.declared.parts.Kind.{Kind}
use Rattle.rows.specs.declared.parts.Kind.TheVariants.{Form as of_form, View as of_view, Text as of_text}
use Rattle.rows.specs.Stands.{both_row}
use Rattle.rows.specs.Parts.{Part, part_row}
use Rattle.rows.proofs.Builds.{Splits, splits_both, splits_tagged}
use Rattle.rows.proofs.Tags

pub splits_form : (f : Form) → Splits form_row f
splits_form empty = record { only = λ y r t e. let u = Tags.undo_empty y r t e in (sym u.0, u.1) }
splits_form (one a b) = record { only = λ y r t e. let u = Tags.undo_one y _ t e in let x : a ≡ u.0.0 = cc u.2 in let z : b ≡ u.0.1 = cc u.2 in let w : r ≡ t = cc u.2 in (ap₂ one x z ∙ sym u.1, w) }
splits_form (seq f g) = splits_tagged Tags.builds_seq (f, g) (splits_both form_row form_row f g (splits_form f) (splits_form g))
splits_form (or f g) = splits_tagged Tags.builds_or (f, g) (splits_both form_row form_row f g (splits_form f) (splits_form g))
splits_form (many f) = splits_tagged Tags.builds_many f (splits_form f)

-- Texts of the same length that stand before something
same_front : (v w r t : List ℕ) → length v ≡ length w → v ++ r ≡ w ++ t → (v ≡ w) × (r ≡ t)
same_front [] [] r t n e = (refl, e)
same_front [] (y ∷ w) r t n e = absurd (omega arith)
same_front (x ∷ v) [] r t n e = absurd (omega arith)
same_front (x ∷ v) (y ∷ w) r t n e =
    let n' : length v ≡ length w = omega arith in
    let e' : v ++ r ≡ w ++ t = cc in
    let p : x ≡ y = cc in
    let same = same_front v w r t n' e' in
    (ap₂ ◌∷◌ p same.0, same.1)

pub splits_text : (v : Text) → Splits text_row v
splits_text v = record { only = λ w r t e. let n : length v ≡ length w = cc in let e' : v ++ r ≡ w ++ t = cc in same_front v w r t n e' }

pub splits_view : (v : View) → Splits view_row v
splits_view (copy f) = splits_tagged Tags.builds_copy f (splits_form f)
splits_view (hide f v d) = splits_tagged Tags.builds_hide (f, (v, d)) (splits_both form_row (both_row text_row text_row) f (v, d) (splits_form f) (splits_both text_row text_row v d (splits_text v) (splits_text d)))
splits_view (then k l) = splits_tagged Tags.builds_then (k, l) (splits_both view_row view_row k l (splits_view k) (splits_view l))
splits_view (swap k l) = splits_tagged Tags.builds_swap (k, l) (splits_both view_row view_row k l (splits_view k) (splits_view l))
splits_view (either k l) = splits_tagged Tags.builds_either (k, l) (splits_both view_row view_row k l (splits_view k) (splits_view l))
splits_view (each l) = splits_tagged Tags.builds_each l (splits_view l)

pub splits_part : (k : Kind) (x : Part k) → Splits (part_row k) x
splits_part of_form = splits_form
splits_part of_view = splits_view
splits_part of_text = splits_text

pub one_view : OneView
one_view s k l a b = ((splits_view k).only l [] [] (append-nil _ ∙ a.row ∙ sym b.row ∙ sym (append-nil _))).0
