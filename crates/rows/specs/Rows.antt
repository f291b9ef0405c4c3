-- Views as rows of bytes, in prefix order: a tag, and then the parts.
-- Not here: how a row is read (Stands, Parts, Nodes).
use Rattle.std.specs.Prelude.{◌≡◌, ℕ, ◌<◌, ◌≤◌, List, [], ◌∷◌, ◌++◌, length}
use Rattle.lens.specs.Forms.{Text, Form, empty, one, seq, or, many}
use Rattle.lens.specs.Views.{View, copy, hide, then, swap, either, each}

abbrev pub form_row : Form → List ℕ
form_row empty = 0 ∷ []
form_row (one a b) = 1 ∷ a ∷ b ∷ []
form_row (seq f g) = 2 ∷ (form_row f ++ form_row g)
form_row (or f g) = 3 ∷ (form_row f ++ form_row g)
form_row (many f) = 4 ∷ form_row f

-- A text has its length in front.
abbrev pub text_row : Text → List ℕ
text_row v = length v ∷ v

abbrev pub view_row : View → List ℕ
view_row (copy f) = 10 ∷ form_row f
view_row (hide f v d) = 11 ∷ (form_row f ++ (text_row v ++ text_row d))
view_row (then k l) = 12 ∷ (view_row k ++ view_row l)
view_row (swap k l) = 13 ∷ (view_row k ++ view_row l)
view_row (either k l) = 14 ∷ (view_row k ++ view_row l)
view_row (each l) = 15 ∷ view_row l

-- Every number that a row holds is a byte, and a range goes upward.
abbrev pub FormFine : Form → Type 0
FormFine empty = Unit {0}
FormFine (one a b) = (a ≤ b) × (b < 256)
FormFine (seq f g) = FormFine f × FormFine g
FormFine (or f g) = FormFine f × FormFine g
FormFine (many f) = FormFine f

abbrev pub AllBytes : Text → Type 0
AllBytes [] = Unit {0}
AllBytes (x ∷ xs) = (x < 256) × AllBytes xs

abbrev pub TextFine : Text → Type 0
TextFine v = (length v < 256) × AllBytes v

abbrev pub ViewFine : View → Type 0
ViewFine (copy f) = FormFine f
ViewFine (hide f v d) = FormFine f × (TextFine v × TextFine d)
ViewFine (then k l) = ViewFine k × ViewFine l
ViewFine (swap k l) = ViewFine k × ViewFine l
ViewFine (either k l) = ViewFine k × ViewFine l
ViewFine (each l) = ViewFine l

-- The bytes s say the view v. A row has at most 1,024 bytes.
pub record Encodes (s : List ℕ) (v : View) : Type 0 where
  pub row : view_row v ≡ s
  pub fine : ViewFine v
  pub short : length s ≤ 1024

-- Bytes say at most one view.
abbrev pub OneView : Type 0
OneView = (s : List ℕ) (k l : View) → Encodes s k → Encodes s l → k ≡ l
