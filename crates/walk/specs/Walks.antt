-- Where a walk over a cut text stands: at a view of a row, at the place of its tree, and at a part of the text.
use Rattle.std.specs.Prelude.{◌≡◌, ℕ, ◌≤◌, Bool, true, false, cond, ◌⊎◌, List, [], ◌∷◌, length, ◌==◌, drop}
use Rattle.lens.specs.Forms.{Form, many, Matches}
use Rattle.lens.specs.Views.{View}
use Rattle.rows.specs.Rows.{view_row, ViewFine}
use Rattle.clear.specs.Sides.{side_form}
use Rattle.clear.specs.Filled.{Laid}
use Rattle.trees.specs.declared.nodes.Node.{Node}
use Rattle.trees.specs.declared.nodes.Node.TheVariants.{None, Empty, One, Seq, Or, Many, Same, Byte}
use Rattle.trees.specs.declared.scanned.Scanned.{Scanned}
use Rattle.trees.specs.Nodes.{node_at}
use Rattle.trees.specs.Tree.{Stack, Fits, Begins, At}
use Rattle.trees.specs.Cells.{begun, cell}
use Rattle.marks.specs.Cut.{Cut, series}
use Rattle.marks.specs.Tables.{Part}
use Rattle.grow.specs.Planted.{Planted}
use Rattle.walk.specs.declared.cut_text.CutText.{CutText}

-- From the place i on the text goes on with a part of the node at q, which is of the form f.
pub record Holds (scanned : Scanned) (f : Form) (q i : ℕ) : Type 0 where
  pub stack : Stack
  pub stands : At scanned.tree.words.now scanned.tree.root q f stack
  pub fits : Fits (f ∷ stack) (drop i scanned.text.now)
  pub within : i ≤ length scanned.text.now

-- From i to e the text has any number of parts of the node at x, each of the form f.
pub record HeldSeries (scanned : Scanned) (marks : List ℕ) (f : Form) (x i e : ℕ) : Type 0 where
  pub stack : Stack
  pub stands : At scanned.tree.words.now scanned.tree.root x f (many f ∷ stack)
  pub fits : Fits (many f ∷ stack) (drop i scanned.text.now)
  pub within : i ≤ length scanned.text.now
  pub cut : Cut scanned.tree.words.now (begun scanned) (cell scanned.tree marks) (series x) i e

-- Which of two nodes the cut took at i: the first one if a part of it that is not empty begins there, or if none of
-- either does and the empty text is of it.
pub record Chooses (scanned : Scanned) (x y i : ℕ) (r : Bool) : Type 0 where
  pub left : r ≡ true → (f g : Form) (σ : Stack) → At scanned.tree.words.now scanned.tree.root x f σ → At scanned.tree.words.now scanned.tree.root y g σ →
      Begins f σ (drop i scanned.text.now) ⊎ (Matches f [] × (Begins g σ (drop i scanned.text.now) → ⊥))
  pub right : r ≡ false → (f g : Form) (σ : Stack) → At scanned.tree.words.now scanned.tree.root x f σ → At scanned.tree.words.now scanned.tree.root y g σ →
      (Begins f σ (drop i scanned.text.now) → ⊥) × (Begins g σ (drop i scanned.text.now) ⊎ (Matches f [] → ⊥))

-- A part of the node at q, from i to e.
abbrev pub CutPart : CutText → ℕ → ℕ → ℕ → Type 0
CutPart cut = Part cut.scanned cut.marks.now

-- The part of the node at q that begins at i ends at m.
abbrev pub Ends : CutText → ℕ → ℕ → ℕ → Type 0
Ends cut q i m = (e : ℕ) → CutPart cut q i e → m ≡ e

-- Of the two parts of a node, the one that is not at `first`.
abbrev pub other_of : Node → ℕ → ℕ
other_of None first = 0
other_of Empty first = 0
other_of (One low high) first = 0
other_of (Seq x y) first = cond (x == first) y x
other_of (Or x y) first = y
other_of (Many x) first = 0
other_of (Same x) first = 0
other_of (Byte b x) first = 0

abbrev pub other_part : CutText → ℕ → ℕ → ℕ
other_part cut place first = other_of (node_at cut.scanned.tree.words.now place) first

-- The view v stands in the row at `place` and in the tree, and a part of it in the text, from i to e.
pub record CutWalk (row : List ℕ) (cut : CutText) (place i e : ℕ) (v : View) : Type 0 where
  pub behind : ℕ
  pub laid : Laid view_row ViewFine row place behind v
  pub planted : Planted cut.scanned.tree.words.now cut.side place v
  pub holds : Holds cut.scanned (side_form cut.side v) place i
  pub part : CutPart cut place i e

-- Some view does.
pub record CutWalks (row : List ℕ) (cut : CutText) (place i e : ℕ) : Type 0 where
  pub view : View
  pub walk : CutWalk row cut place i e view

-- The view l stands in the row at `place`, and any number of parts of it in the text, from i to e.
pub record CutSeries (row : List ℕ) (cut : CutText) (place i e : ℕ) (l : View) : Type 0 where
  pub behind : ℕ
  pub laid : Laid view_row ViewFine row place behind l
  pub planted : Planted cut.scanned.tree.words.now cut.side place l
  pub held : HeldSeries cut.scanned cut.marks.now (side_form cut.side l) place i e

-- Some view does.
pub record SomeCutSeries (row : List ℕ) (cut : CutText) (place i e : ℕ) : Type 0 where
  pub view : View
  pub parts : CutSeries row cut place i e view

-- Which of the two nodes at x and y the cut took at i.
abbrev pub Takes : CutText → ℕ → ℕ → ℕ → Bool → Type 0
Takes cut = Chooses cut.scanned
