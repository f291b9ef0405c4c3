-- The rules that the passes go by: a bit of a node from the bits of its parts or of its parent.
-- Not here: what the bits mean (Rows); that the rules are right is proved.
use Rattle.std.specs.Prelude.{ℕ, Bool, true, false, cond, ◌&&◌, ◌||◌, List, ◌==◌, nat_le}
use Rattle.bits.specs.Bits.{bit}
use Rattle.trees.specs.declared.nodes.Node.{Node}
use Rattle.trees.specs.declared.nodes.Node.TheVariants.{None, Empty, One, Seq, Or, Many, Same, Byte}
use Rattle.trees.specs.declared.step.Spot.{Spot}
use Rattle.trees.specs.Nodes.{node_at, up_at}
use Rattle.trees.specs.Rows.{row_at, row_behind}

-- Whether the empty text is of a node's form.
abbrev pub null_rule : (ℕ → Bool) → Node → Bool
null_rule null None = false
null_rule null Empty = true
null_rule null (One low high) = false
null_rule null (Seq x y) = null x && null y
null_rule null (Or x y) = null x || null y
null_rule null (Many x) = true
null_rule null (Same x) = null x
null_rule null (Byte b x) = false

-- Whether the text behind a spot fits the stack of the node at q, by the node of its parent p. The other nodes pass their
-- own stack on.
abbrev pub rest_rule : (null behind rests : ℕ → Bool) → ℕ → ℕ → Node → Bool
rest_rule null behind rests q p None = rests p
rest_rule null behind rests q p Empty = rests p
rest_rule null behind rests q p (One low high) = rests p
rest_rule null behind rests q p (Seq x y) = cond (q == x) (behind y || (null y && rests p)) (rests p)
rest_rule null behind rests q p (Or x y) = rests p
rest_rule null behind rests q p (Many x) = behind p || rests p
rest_rule null behind rests q p (Same x) = rests p
rest_rule null behind rests q p (Byte b x) = rests p

abbrev pub rest : List ℕ → List ℕ → Spot → ℕ → Bool
rest rests bits spot q =
    cond (q == spot.tree.root) spot.last
    (rest_rule (bit spot.tree.null.now) (row_behind bits spot) (bit rests) q
    (up_at spot.tree.words.now q) (node_at spot.tree.words.now (up_at spot.tree.words.now q)))

-- Whether a part of the node at q that is not empty begins where the byte c stands.
abbrev pub start_rule : (null behind rests row : ℕ → Bool) → ℕ → ℕ → Node → Bool
start_rule null behind rests row c q None = false
start_rule null behind rests row c q Empty = false
start_rule null behind rests row c q (One low high) = nat_le low c && (nat_le c high && rests q)
start_rule null behind rests row c q (Seq x y) = row x || (null x && row y)
start_rule null behind rests row c q (Or x y) = row x || row y
start_rule null behind rests row c q (Many x) = row x
start_rule null behind rests row c q (Same x) = row x
start_rule null behind rests row c q (Byte b x) = c == b && (behind x || (null x && rests q))

abbrev pub start : List ℕ → List ℕ → Spot → ℕ → Bool
start rests bits spot q =
    start_rule (bit spot.tree.null.now) (row_behind bits spot) (bit rests) (row_at bits spot.row) spot.byte q
    (node_at spot.tree.words.now q)
