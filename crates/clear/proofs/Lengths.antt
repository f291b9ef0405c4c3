-- Rows are never empty.
use Rattle.std.proofs.Common.{ℕ, ◌<◌, List, length, ap, arith, length-append}
use Rattle.lens.specs.Forms.{Form, Text}
use Rattle.lens.specs.Views.{View}
use Rattle.rows.specs.Rows.{form_row, text_row, view_row}
use Rattle.rows.specs.Stands.{both_row}
use Rattle.rows.proofs.Tags.{form_tag, view_tag}

pub form_long : (f : Form) → 0 < length (form_row f)
form_long f = omega (arith, ap length (form_tag f).2)

pub text_long : (v : Text) → 0 < length (text_row v)
text_long v = omega arith

pub view_long : (v : View) → 0 < length (view_row v)
view_long v = omega (arith, ap length (view_tag v).2)

pub both_long : {A B : Type 0} (row : A → List ℕ) (row' : B → List ℕ) → ((a : A) → 0 < length (row a)) → (p : A × B) → 0 < length (both_row row row' p)
both_long row row' long p = omega (arith, long p.0, length-append (row p.0) (row' p.1))
