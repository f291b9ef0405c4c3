-- The texts of a hide in a row.
use Rattle.std.proofs.Common.{◌≡◌, ℕ, ◌+◌, ◌-◌, List, ◌++◌, length, take, drop, sym, ap, ◌∙◌, arith, drop-drop}
use Rattle.std.proofs.lemmas.List.{take-append-le, take_all}
use Rattle.lens.specs.Forms.{Text}
use Rattle.rows.specs.Rows.{form_row, text_row, FormFine, TextFine}
use Rattle.rows.specs.Stands.{Stands}
use Rattle.rows.proofs.Tags.{Hidden, hidden_row, HiddenFine}
use Rattle.rows.proofs.Unique.{splits_form, splits_text}
use Rattle.clear.specs.Filled.{Laid}
use Rattle.clear.proofs.Laying.{laid_length, laid_ends, laid_both}
use Rattle.clear.proofs.Lengths.{text_long, both_long}
use Rattle.walk.specs.Spans.{slice}

-- Behind its length stand the bytes of a text.
laid_bytes : {s : List ℕ} {at e : ℕ} {v : Text} → Laid text_row TextFine s at e v → slice s (at + 1) e ≡ v
laid_bytes {s} {at} {e} {v} l =
    let behind : drop (at + 1) s ≡ v ++ drop e s = sym (drop-drop 1 at s) ∙ ap (drop 1) l.laid in
    let long = laid_length text_row s at e v (omega (arith, l.less, l.within)) l.within l.laid in
    let exact : e - (at + 1) ≡ length v = omega (arith, long) in
    ap (take (e - (at + 1))) behind ∙ take-append-le (e - (at + 1)) v (drop e s) (omega arith) ∙ take_all (e - (at + 1)) v (omega arith)

pub text_bytes : {s : List ℕ} {at m e : ℕ} {v : Text} → Stands text_row TextFine s at m → Laid text_row TextFine s at e v → slice s (at + 1) m ≡ v
text_bytes {s} {at} ends l = ap (λ m. slice s (at + 1) m) (laid_ends splits_text ends l) ∙ laid_bytes l

-- Where the two texts of a hide stand, behind its form.
pub hidden_texts : {s : List ℕ} {at m m' e : ℕ} {p : Hidden} → Stands form_row FormFine s at m → Stands text_row TextFine s m m' →
    Laid hidden_row HiddenFine s at e p → Laid text_row TextFine s m m' p.1.0 × Laid text_row TextFine s m' e p.1.1
hidden_texts {p = p} a b l =
    let (f, texts) = laid_both splits_form (both_long text_row text_row text_long) p a l in
    laid_both splits_text text_long p.1 b texts
