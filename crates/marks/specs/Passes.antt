-- What the pass over a text needs to know where it stands, and what it does to the marks.
use Rattle.std.specs.Prelude.{◌≡◌, ℕ, ◌-◌, ◌<◌, ◌≤◌, Bool, true, false, ◌≢◌, ◌⊎◌, List, ◌∷◌, length, take, drop}
use Rattle.lens.specs.Forms.{Text, Form, many, Matches}
use Rattle.trees.specs.declared.tree.Tree.{Tree}
use Rattle.trees.specs.declared.scanned.Scanned.{Scanned}
use Rattle.trees.specs.Tree.{Stack, Grows, Fits, At}
use Rattle.marks.specs.Cut.{Cuttable, Cut}
use Rattle.trees.specs.Cells.{begun, cell}

-- Some form stands at the root of a tree.
pub record Grown (tree : Tree) : Type 0 where
  pub form : Form
  pub grows : Grows tree.words.now tree.root form

-- From the place i on the text goes on with a part of the node at q.
pub record Here (scanned : Scanned) (q i : ℕ) : Type 0 where
  pub form : Form
  pub stack : Stack
  pub stands : At scanned.tree.words.now scanned.tree.root q form stack
  pub fits : Fits (form ∷ stack) (drop i scanned.text.now)
  pub within : i ≤ length scanned.text.now

-- From the place i on the text goes on with any number of parts of the node at x.
pub record HereSeries (scanned : Scanned) (x i : ℕ) : Type 0 where
  pub form : Form
  pub stack : Stack
  pub stands : At scanned.tree.words.now scanned.tree.root x form (many form ∷ stack)
  pub fits : Fits (many form ∷ stack) (drop i scanned.text.now)
  pub within : i ≤ length scanned.text.now

-- From i to e stands a text of the form f, and what stands behind it fits σ.
pub record Piece (text : Text) (f : Form) (σ : Stack) (i e : ℕ) : Type 0 where
  pub ordered : i ≤ e
  pub within : e ≤ length text
  pub matches : Matches f (take (e - i) (drop i text))
  pub rest : Fits σ (drop e text)

-- No mark stands at the place i or behind it.
pub record Fresh (M : ℕ → ℕ → Bool) (i : ℕ) : Type 0 where
  pub none : (j p : ℕ) → i ≤ j → M j p ≡ false

-- The marks of a pass from i to e over nodes from low on: what stands behind is unmarked, and marks of places before i,
-- and of nodes before low, are as they were.
pub record Stays (low : ℕ) (old new : ℕ → ℕ → Bool) (i e : ℕ) : Type 0 where
  pub fresh : (j p : ℕ) → e ≤ j → new j p ≡ false
  pub kept : (j p : ℕ) → j < i → new j p ≡ old j p
  pub above : (j p : ℕ) → p < low → new j p ≡ old j p

-- What stands at i is cut and marked up to e.
pub record Cuts (scanned : Scanned) (k : Cuttable) (low : ℕ) (old new : List ℕ) (i e : ℕ) : Type 0 where
  pub cut : Cut scanned.tree.words.now (begun scanned) (cell scanned.tree new) k i e
  pub stays : Stays low (cell scanned.tree old) (cell scanned.tree new) i e

-- The mark of the node q at the place i was made, and the others are as they were.
pub record Adds (old new : ℕ → ℕ → Bool) (i q : ℕ) : Type 0 where
  pub here : new i q ≡ true
  pub others : (j p : ℕ) → (j ≢ i) ⊎ (p ≢ q) → new j p ≡ old j p
