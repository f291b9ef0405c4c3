-- Steps that are remembered: from the row in a slot and a byte to the row in another slot, whatever text the first row is of.
-- Not here: the memory that keeps them (Memory).
use Rattle.std.specs.Prelude.{◌≡◌, ℕ, ◌+◌, ◌*◌, ◌^◌, ◌<◌, ◌≤◌, List, ◌∷◌, length, slice_index}
use Rattle.lens.specs.Forms.{Text}
use Rattle.trees.specs.declared.tree.Tree.{Tree}
use Rattle.trees.specs.Rows.{Starts}
use Rattle.recall.specs.Slots.{width, slot_bit}

-- From a text that is not empty and of which slot k tells what begins there, the byte b leads to slot `to`.
pub record Leads (tree : Tree) (rows : List ℕ) (k b to : ℕ) : Type 0 where
  pub tells : (c : ℕ) (t : Text) → Starts tree (slot_bit tree.size rows k) 0 (c ∷ t) → Starts tree (slot_bit tree.size rows to) 0 (b ∷ (c ∷ t))

-- Every step that is remembered between the used slots is such a one. What is kept of a step is one more than the slot that
-- it leads to, and 0 if none is known.
pub record Recalls (tree : Tree) (rows next : List ℕ) (used : ℕ) : Type 0 where
  pub steps : (k b to : ℕ) → k < used → b < 256 → slice_index next (256 * k + b) ≡ to + 1 → (to < used) × Leads tree rows k b to

-- There is room for so many slots, of which some are used.
pub record Room (n : ℕ) (rows next : List ℕ) (slots used : ℕ) : Type 0 where
  pub free : used ≤ slots
  pub rows_long : slots * width n ≤ length rows
  pub next_long : 256 * slots ≤ length next
  pub few : length rows < 2 ^ 32
