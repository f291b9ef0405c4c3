-- A tree in lent words: four words a place, a kind, two operands, and the place of the parent.
-- Not here: the form that a node stands for (Tree).
use Rattle.std.specs.Prelude.{◌≡◌, ℕ, ◌+◌, ◌*◌, ◌<◌, cond, ◌≢◌, List, ◌==◌, slice_index}
use Rattle.trees.specs.declared.nodes.Node.{Node}
use Rattle.trees.specs.declared.nodes.Node.TheVariants.{None, Empty, One, Seq, Or, Many, Same, Byte}

-- The first three words of a place: any other kind is no node.
abbrev pub node_of : ℕ → ℕ → ℕ → Node
node_of kind x y =
    cond (kind == 1) Empty
    (cond (kind == 2) (One x y)
    (cond (kind == 3) (Seq x y)
    (cond (kind == 4) (Or x y)
    (cond (kind == 5) (Many x)
    (cond (kind == 6) (Same x)
    (cond (kind == 7) (Byte x y) None))))))

abbrev pub node_of_words : List ℕ → Node
node_of_words w = node_of (slice_index w 0) (slice_index w 1) (slice_index w 2)

-- The node at the place q; past the end of the words there is none.
abbrev pub node_at : List ℕ → ℕ → Node
node_at words q = node_of (slice_index words (4 * q)) (slice_index words (4 * q + 1)) (slice_index words (4 * q + 2))

-- The place of its parent.
abbrev pub up_at : List ℕ → ℕ → ℕ
up_at words q = slice_index words (4 * q + 3)

-- The words with another node at the place q.
pub record Changed (old new : List ℕ) (q : ℕ) (node : Node) (up : ℕ) : Type 0 where
  pub here : node_at new q ≡ node
  pub under : up_at new q ≡ up
  pub elsewhere : (p : ℕ) → p ≢ q → node_at new p ≡ node_at old p
  pub elsewhere_under : (p : ℕ) → p ≢ q → up_at new p ≡ up_at old p

-- P holds of the place of each part of a node.
abbrev pub EachPart : (ℕ → Type 0) → Node → Type 0
EachPart P None = Unit {0}
EachPart P Empty = Unit {0}
EachPart P (One low high) = Unit {0}
EachPart P (Seq x y) = P x × P y
EachPart P (Or x y) = P x × P y
EachPart P (Many x) = P x
EachPart P (Same x) = P x
EachPart P (Byte byte x) = P x

-- The place x, of n, stands behind the place q, and says that q is its parent.
pub record Under (n : ℕ) (words : List ℕ) (q x : ℕ) : Type 0 where
  pub behind : q < x
  pub below : x < n
  pub parent : up_at words x ≡ q

-- The first n places are linked: each part stands behind its node and says so, and the two parts of a `Seq` are two
-- places, in any order.
pub record Linked (n : ℕ) (words : List ℕ) : Type 0 where
  pub parts : (q : ℕ) → q < n → EachPart (Under n words q) (node_at words q)
  pub two : (q x y : ℕ) → q < n → node_at words q ≡ Seq x y → x ≢ y
