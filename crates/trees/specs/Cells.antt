-- The bits of nodes and places of a text in words, a row of nodes for each place.
-- Not here: what a row says of the text (Rows).
use Rattle.std.specs.Prelude.{ℕ, ◌+◌, ◌*◌, Bool, ◌&&◌, List, length, nat_lt}
use Rattle.lens.specs.Forms.{Text}
use Rattle.bits.specs.Bits.{bit}
use Rattle.trees.specs.declared.tree.Tree.{Tree}
use Rattle.trees.specs.declared.scanned.Scanned.{Scanned}

-- The bit of the node q in the row of the place i, in rows of n nodes; a place that is not among them has none.
abbrev pub cell_of : ℕ → List ℕ → ℕ → ℕ → Bool
cell_of n bits i q = nat_lt q n && bit bits (i * n + q)

-- The same of a tree.
abbrev pub cell : Tree → List ℕ → ℕ → ℕ → Bool
cell tree = cell_of tree.size

-- Whether a part of the node q that is not empty begins at the place i of a text, by such rows; at its end none does.
abbrev pub begun_of : ℕ → Text → List ℕ → ℕ → ℕ → Bool
begun_of n text starts i q = nat_lt i (length text) && cell_of n starts i q

-- The same of a text with its table.
abbrev pub begun : Scanned → ℕ → ℕ → Bool
begun scanned = begun_of scanned.tree.size scanned.text.now scanned.starts.now
