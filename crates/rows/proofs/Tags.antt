-- The nodes of forms and views: what each tag is made of, and which thing begins with which tag.
use Rattle.std.proofs.Common.{◌≡◌, ℕ, ◌≤◌, false, eqb, List, [], ◌∷◌, ◌++◌, refl, lit≤}
use Rattle.std.proofs.lemmas.Bool.{eqb-false}
use Rattle.lens.specs.Forms.{Text, Form, empty, one, seq, or, many}
use Rattle.lens.specs.Views.{View, copy, hide, then, swap, either, each}
use Rattle.rows.specs.Rows.{form_row, view_row, text_row, FormFine, ViewFine, TextFine}
use Rattle.rows.specs.Stands.{both_row, BothFine}
use Rattle.rows.proofs.Builds.{Builds}

tail : {x y : ℕ} {u v : List ℕ} → x ∷ u ≡ y ∷ v → u ≡ v
tail e = cc

-- Rows with different tags differ.
differ : {X : Type 0} (a b : ℕ) {u v : List ℕ} → eqb a b ≡ false → a ∷ u ≡ b ∷ v → X
differ a b t e = let same : a ≡ b = cc in absurd (eqb-false a b t same)

-- Forms
pub undo_empty : (x : Form) (w r : List ℕ) → 0 ∷ w ≡ form_row x ++ r → (x ≡ empty) × (w ≡ r)
undo_empty empty w r e = (refl, tail e)
undo_empty (one a b) w r e = differ 0 1 refl e
undo_empty (seq f g) w r e = differ 0 2 refl e
undo_empty (or f g) w r e = differ 0 3 refl e
undo_empty (many f) w r e = differ 0 4 refl e

pub undo_one : (x : Form) (w r : List ℕ) → 1 ∷ w ≡ form_row x ++ r → (p : ℕ × ℕ) × (x ≡ one p.0 p.1) × (w ≡ p.0 ∷ p.1 ∷ r)
undo_one empty w r e = differ 1 0 refl e
undo_one (one a b) w r e = ((a, b), refl, tail e)
undo_one (seq f g) w r e = differ 1 2 refl e
undo_one (or f g) w r e = differ 1 3 refl e
undo_one (many f) w r e = differ 1 4 refl e

pub undo_seq : (x : Form) (w r : List ℕ) → 2 ∷ w ≡ form_row x ++ r → (p : Form × Form) × (x ≡ seq p.0 p.1) × (w ≡ both_row form_row form_row p ++ r)
undo_seq empty w r e = differ 2 0 refl e
undo_seq (one a b) w r e = differ 2 1 refl e
undo_seq (seq f g) w r e = ((f, g), refl, tail e)
undo_seq (or f g) w r e = differ 2 3 refl e
undo_seq (many f) w r e = differ 2 4 refl e

pub undo_or : (x : Form) (w r : List ℕ) → 3 ∷ w ≡ form_row x ++ r → (p : Form × Form) × (x ≡ or p.0 p.1) × (w ≡ both_row form_row form_row p ++ r)
undo_or empty w r e = differ 3 0 refl e
undo_or (one a b) w r e = differ 3 1 refl e
undo_or (seq f g) w r e = differ 3 2 refl e
undo_or (or f g) w r e = ((f, g), refl, tail e)
undo_or (many f) w r e = differ 3 4 refl e

pub undo_many : (x : Form) (w r : List ℕ) → 4 ∷ w ≡ form_row x ++ r → (f : Form) × (x ≡ many f) × (w ≡ form_row f ++ r)
undo_many empty w r e = differ 4 0 refl e
undo_many (one a b) w r e = differ 4 1 refl e
undo_many (seq f g) w r e = differ 4 2 refl e
undo_many (or f g) w r e = differ 4 3 refl e
undo_many (many f) w r e = (f, refl, tail e)

abbrev pub builds_seq : Builds 2 (both_row form_row form_row) (BothFine FormFine FormFine) form_row FormFine
builds_seq = record { make = λ p. seq p.0 p.1; lays = λ p. refl; keeps = λ p h. h; gives = λ p h. h; undo = undo_seq }

abbrev pub builds_or : Builds 3 (both_row form_row form_row) (BothFine FormFine FormFine) form_row FormFine
builds_or = record { make = λ p. or p.0 p.1; lays = λ p. refl; keeps = λ p h. h; gives = λ p h. h; undo = undo_or }

abbrev pub builds_many : Builds 4 form_row FormFine form_row FormFine
builds_many = record { make = many; lays = λ f. refl; keeps = λ f h. h; gives = λ f h. h; undo = undo_many }

-- A form's row begins with a tag up to 4.
pub form_tag : (x : Form) → (t : ℕ) × (w : List ℕ) × (form_row x ≡ t ∷ w) × (t ≤ 4)
form_tag empty = (0, [], refl, lit≤ tt)
form_tag (one a b) = (1, _, refl, lit≤ tt)
form_tag (seq f g) = (2, _, refl, lit≤ tt)
form_tag (or f g) = (3, _, refl, lit≤ tt)
form_tag (many f) = (4, _, refl, lit≤ tt)

-- Views
pub undo_copy : (x : View) (w r : List ℕ) → 10 ∷ w ≡ view_row x ++ r → (f : Form) × (x ≡ copy f) × (w ≡ form_row f ++ r)
undo_copy (copy f) w r e = (f, refl, tail e)
undo_copy (hide f v d) w r e = differ 10 11 refl e
undo_copy (then k l) w r e = differ 10 12 refl e
undo_copy (swap k l) w r e = differ 10 13 refl e
undo_copy (either k l) w r e = differ 10 14 refl e
undo_copy (each l) w r e = differ 10 15 refl e

-- what stands behind hide's tag: a form and two texts
abbrev pub Hidden : Type 0
Hidden = Form × (Text × Text)

abbrev pub hidden_row : Hidden → List ℕ
hidden_row = both_row form_row (both_row text_row text_row)

abbrev pub HiddenFine : Hidden → Type 0
HiddenFine = BothFine FormFine (BothFine TextFine TextFine)

pub undo_hide : (x : View) (w r : List ℕ) → 11 ∷ w ≡ view_row x ++ r → (p : Hidden) × (x ≡ hide p.0 p.1.0 p.1.1) × (w ≡ hidden_row p ++ r)
undo_hide (copy f) w r e = differ 11 10 refl e
undo_hide (hide f v d) w r e = ((f, (v, d)), refl, tail e)
undo_hide (then k l) w r e = differ 11 12 refl e
undo_hide (swap k l) w r e = differ 11 13 refl e
undo_hide (either k l) w r e = differ 11 14 refl e
undo_hide (each l) w r e = differ 11 15 refl e

pub undo_then : (x : View) (w r : List ℕ) → 12 ∷ w ≡ view_row x ++ r → (p : View × View) × (x ≡ then p.0 p.1) × (w ≡ both_row view_row view_row p ++ r)
undo_then (copy f) w r e = differ 12 10 refl e
undo_then (hide f v d) w r e = differ 12 11 refl e
undo_then (then k l) w r e = ((k, l), refl, tail e)
undo_then (swap k l) w r e = differ 12 13 refl e
undo_then (either k l) w r e = differ 12 14 refl e
undo_then (each l) w r e = differ 12 15 refl e

pub undo_swap : (x : View) (w r : List ℕ) → 13 ∷ w ≡ view_row x ++ r → (p : View × View) × (x ≡ swap p.0 p.1) × (w ≡ both_row view_row view_row p ++ r)
undo_swap (copy f) w r e = differ 13 10 refl e
undo_swap (hide f v d) w r e = differ 13 11 refl e
undo_swap (then k l) w r e = differ 13 12 refl e
undo_swap (swap k l) w r e = ((k, l), refl, tail e)
undo_swap (either k l) w r e = differ 13 14 refl e
undo_swap (each l) w r e = differ 13 15 refl e

pub undo_either : (x : View) (w r : List ℕ) → 14 ∷ w ≡ view_row x ++ r → (p : View × View) × (x ≡ either p.0 p.1) × (w ≡ both_row view_row view_row p ++ r)
undo_either (copy f) w r e = differ 14 10 refl e
undo_either (hide f v d) w r e = differ 14 11 refl e
undo_either (then k l) w r e = differ 14 12 refl e
undo_either (swap k l) w r e = differ 14 13 refl e
undo_either (either k l) w r e = ((k, l), refl, tail e)
undo_either (each l) w r e = differ 14 15 refl e

pub undo_each : (x : View) (w r : List ℕ) → 15 ∷ w ≡ view_row x ++ r → (l : View) × (x ≡ each l) × (w ≡ view_row l ++ r)
undo_each (copy f) w r e = differ 15 10 refl e
undo_each (hide f v d) w r e = differ 15 11 refl e
undo_each (then k l) w r e = differ 15 12 refl e
undo_each (swap k l) w r e = differ 15 13 refl e
undo_each (either k l) w r e = differ 15 14 refl e
undo_each (each l) w r e = (l, refl, tail e)

abbrev pub builds_copy : Builds 10 form_row FormFine view_row ViewFine
builds_copy = record { make = copy; lays = λ f. refl; keeps = λ f h. h; gives = λ f h. h; undo = undo_copy }

abbrev pub builds_hide : Builds 11 hidden_row HiddenFine view_row ViewFine
builds_hide = record { make = λ p. hide p.0 p.1.0 p.1.1; lays = λ p. refl; keeps = λ p h. h; gives = λ p h. h; undo = undo_hide }

abbrev pub builds_then : Builds 12 (both_row view_row view_row) (BothFine ViewFine ViewFine) view_row ViewFine
builds_then = record { make = λ p. then p.0 p.1; lays = λ p. refl; keeps = λ p h. h; gives = λ p h. h; undo = undo_then }

abbrev pub builds_swap : Builds 13 (both_row view_row view_row) (BothFine ViewFine ViewFine) view_row ViewFine
builds_swap = record { make = λ p. swap p.0 p.1; lays = λ p. refl; keeps = λ p h. h; gives = λ p h. h; undo = undo_swap }

abbrev pub builds_either : Builds 14 (both_row view_row view_row) (BothFine ViewFine ViewFine) view_row ViewFine
builds_either = record { make = λ p. either p.0 p.1; lays = λ p. refl; keeps = λ p h. h; gives = λ p h. h; undo = undo_either }

abbrev pub builds_each : Builds 15 view_row ViewFine view_row ViewFine
builds_each = record { make = each; lays = λ l. refl; keeps = λ l h. h; gives = λ l h. h; undo = undo_each }

-- A view's row begins with a tag from 10 to 15.
pub view_tag : (x : View) → (t : ℕ) × (w : List ℕ) × (view_row x ≡ t ∷ w) × ((10 ≤ t) × (t ≤ 15))
view_tag (copy f) = (10, _, refl, (lit≤ tt, lit≤ tt))
view_tag (hide f v d) = (11, _, refl, (lit≤ tt, lit≤ tt))
view_tag (then k l) = (12, _, refl, (lit≤ tt, lit≤ tt))
view_tag (swap k l) = (13, _, refl, (lit≤ tt, lit≤ tt))
view_tag (either k l) = (14, _, refl, (lit≤ tt, lit≤ tt))
view_tag (each l) = (15, _, refl, (lit≤ tt, lit≤ tt))
