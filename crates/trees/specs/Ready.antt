-- What the passes need to know of the words of a tree.
-- Not here: the tree that holds these words, which keeps this as a fact of its own.
use Rattle.std.specs.Prelude.{ℕ, ◌<◌, ◌≤◌, Bool, List, [], Decides}
use Rattle.lens.specs.Forms.{Form, Matches}
use Rattle.bits.specs.Bits.{bit}
use Rattle.trees.specs.Nodes.{Linked}
use Rattle.trees.specs.Tree.{Grows}

-- Of each node from low on, among n, whether the empty text is of its form.
pub record Nulls (n : ℕ) (words : List ℕ) (null : ℕ → Bool) (low : ℕ) : Type 0 where
  pub tells : (q : ℕ) (f : Form) → low ≤ q → q < n → Grows words q f → Decides (null q) (Matches f [])

-- Words that the passes can go by: the first `size` places, with the whole form at the root, and the bits in null.
pub record Ready (words null : List ℕ) (size root : ℕ) : Type 0 where
  pub linked : Linked size words
  pub inside : root < size
  pub nulls : Nulls size words (bit null) 0
