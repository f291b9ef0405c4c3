-- What a row of bits, one for each node, says of a text; and what the passes over a text make of such rows.
use Rattle.std.specs.Prelude.{◌≡◌, ℕ, ◌+◌, ◌*◌, ◌<◌, ◌≤◌, Bool, not, ◌&&◌, List, [], ◌∷◌, length, drop, Decides}
use Rattle.lens.specs.Forms.{Text, Form, Matches}
use Rattle.bits.specs.Bits.{bit}
use Rattle.trees.specs.declared.tree.Tree.{Tree}
use Rattle.trees.specs.declared.step.Spot.{Spot}
use Rattle.trees.specs.Tree.{Stack, Grows, Fits, Begins, At}

-- At the place q of the tree stands f, and behind it the text must fit σ.
abbrev pub Stands : Tree → ℕ → Form → Stack → Type 0
Stands tree q f σ = At tree.words.now tree.root q f σ

-- Of each node before high, whether the text t fits its stack.
pub record Rests (tree : Tree) (row : ℕ → Bool) (high : ℕ) (t : Text) : Type 0 where
  pub tells : (q : ℕ) (f : Form) (σ : Stack) → q < high → Stands tree q f σ → Decides (row q) (Fits σ t)

-- Of each node from low on, whether a part of it that is not empty begins t.
pub record Starts (tree : Tree) (row : ℕ → Bool) (low : ℕ) (t : Text) : Type 0 where
  pub tells : (q : ℕ) (f : Form) (σ : Stack) → low ≤ q → Stands tree q f σ → Decides (row q) (Begins f σ t)

-- The row of bits that begins at a bit.
abbrev pub row_at : List ℕ → ℕ → ℕ → Bool
row_at bits from q = bit bits (from + q)

-- The row of the place behind a spot; behind the last one there is none, and nothing begins there.
abbrev pub row_behind : List ℕ → Spot → ℕ → Bool
row_behind bits spot q = not spot.last && bit bits (spot.row + spot.tree.size + q)

-- The text t is what stands behind a spot, as far as the bits can tell.
pub record Behind (bits : List ℕ) (spot : Spot) (t : Text) : Type 0 where
  pub starts : Starts spot.tree (row_behind bits spot) 0 t
  pub ends : Decides spot.last (t ≡ [])

-- The bits in rests tell what the nodes before high have to fit, whatever the text is that stands behind a spot.
pub record Rested (bits : List ℕ) (spot : Spot) (rests : List ℕ) (high : ℕ) : Type 0 where
  pub tells : (t : Text) → Behind bits spot t → Rests spot.tree (bit rests) high t

-- One step back: from the row behind a spot to its own, from the node low on, whatever the text is that stands behind.
pub record Steps (spot : Spot) (old new : List ℕ) (low : ℕ) : Type 0 where
  pub tells : (t : Text) → Behind old spot t → Starts spot.tree (row_at new spot.row) low (spot.byte ∷ t)
  pub kept : (k : ℕ) → spot.row + spot.tree.size ≤ k → bit new k ≡ bit old k

-- The rows of a text from the place low on, one after the other. There is none for the end of the text.
pub record Tabled (tree : Tree) (bits : List ℕ) (text : Text) (low : ℕ) : Type 0 where
  pub rows : (i : ℕ) → low ≤ i → i < length text → Starts tree (row_at bits (i * tree.size)) 0 (drop i text)

-- Whether a part of the node at q that is not empty begins at the place i of a text.
pub record BeginsAt (tree : Tree) (text : Text) (i q : ℕ) (r : Bool) : Type 0 where
  pub tells : (f : Form) (σ : Stack) → Stands tree q f σ → Decides r (Begins f σ (drop i text))

-- Whether a text is of the form of the whole tree.
pub record Accepts (tree : Tree) (text : Text) (r : Bool) : Type 0 where
  pub tells : (f : Form) → Grows tree.words.now tree.root f → Decides r (Matches f text)
