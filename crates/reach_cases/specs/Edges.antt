-- The edges of the graphs that the cases run on.
use Rattle.std.specs.Prelude.{◌≡◌, ℕ, ◌+◌, ◌*◌, ◌%◌, ◌<◌, ◌⊎◌, List, length, slice_index_or}

-- From a node, a link leads to each of the two nodes of its entry. One past the end of the table leads nowhere.
abbrev pub Linked : List (ℕ × ℕ) → ℕ → ℕ → Type 0
Linked pairs a b = (b < length pairs) × ((b ≡ (slice_index_or pairs a (0, 0)).0) ⊎ (b ≡ (slice_index_or pairs a (0, 0)).1))

-- Around a ring of n nodes: to twice the node's number, and to the next node.
abbrev pub Around : ℕ → ℕ → ℕ → Type 0
Around n a b = (b ≡ 2 * a % n) ⊎ (b ≡ (a + 1) % n)
