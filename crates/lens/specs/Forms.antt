-- Regular forms, and which texts are of a form.
-- Not here: how a form stands in a row of bytes (crate rows).
use Rattle.std.specs.Prelude.{List, [], ◌∷◌, ◌++◌, ℕ, ◌≤◌}

-- A text is a list of bytes.
abbrev pub Text : Type 0
Text = List ℕ

-- A form is a regular expression over bytes: the empty text; one byte from a to b; one after the other;
-- one or the other; any number of parts, one after the other.
pub data Form : Type 0 where
  empty : Form
  one : ℕ → ℕ → Form
  seq : Form → Form → Form
  or : Form → Form → Form
  many : Form → Form
  deriving Discrete as Form-discrete

-- `Matches f u`: the text u is of the form f. A value is one way to cut u into the parts that f names.
pub data Matches : Form → Text → Type 0 where
  is_empty : Matches empty []
  is_one : {a b x : ℕ} → a ≤ x → x ≤ b → Matches (one a b) (x ∷ [])
  is_seq : {f g : Form} (u v : Text) → Matches f u → Matches g v → Matches (seq f g) (u ++ v)
  is_left : {f g : Form} {u : Text} → Matches f u → Matches (or f g) u
  is_right : {f g : Form} {u : Text} → Matches g u → Matches (or f g) u
  is_none : {f : Form} → Matches (many f) []
  is_more : {f : Form} (u v : Text) → Matches f u → Matches (many f) v → Matches (many f) (u ++ v)

-- The form of one text alone.
abbrev pub exactly : Text → Form
exactly [] = empty
exactly (x ∷ xs) = seq (one x x) (exactly xs)
