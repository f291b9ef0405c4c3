-- What a memory tells of the row before a spot and of the row of the spot, and what is done to it.
use Rattle.std.specs.Prelude.{◌≡◌, ℕ, ◌+◌, ◌*◌, ◌<◌, ◌≤◌, ◌⊎◌, false, Option, Some, List, ◌∷◌, slice_index}
use Rattle.lens.specs.Forms.{Text}
use Rattle.bits.specs.Bits.{bit}
use Rattle.trees.specs.declared.step.Spot.{Spot}
use Rattle.trees.specs.Rows.{Starts, row_at}
use Rattle.recall.specs.declared.memory.Memory.{Memory}
use Rattle.recall.specs.Slots.{slot_bit}

-- If a slot is named, it is used and has the row that begins at `row`.
pub record Known (memory : Memory) (bits : List ℕ) (row : ℕ) (slot : Option ℕ) : Type 0 where
  pub there : (k : ℕ) → slot ≡ Some k → k < memory.used
  pub same : (k : ℕ) → slot ≡ Some k → (q : ℕ) → q < memory.tree.size → bit bits (row + q) ≡ slot_bit memory.tree.size memory.rows.now k q

-- If a slot is named, it has the row behind a spot, and there is one.
pub record KnownBehind (memory : Memory) (bits : List ℕ) (spot : Spot) (slot : Option ℕ) : Type 0 where
  pub known : Known memory bits (spot.row + spot.tree.size) slot
  pub more : (k : ℕ) → slot ≡ Some k → spot.last ≡ false

-- If a slot is named, it is used and the byte of a spot leads from its row to the row of the spot.
pub record MadeStep (memory : Memory) (bits : List ℕ) (spot : Spot) (slot : Option ℕ) : Type 0 where
  pub there : (k : ℕ) → slot ≡ Some k → k < memory.used
  pub leads : (k : ℕ) → slot ≡ Some k → (c : ℕ) (t : Text) → Starts memory.tree (slot_bit memory.tree.size memory.rows.now k) 0 (c ∷ t) →
      Starts memory.tree (row_at bits spot.row) 0 (spot.byte ∷ (c ∷ t))

-- The memory for the same tree, with as many slots.
pub record IsSameRoom (old new : Memory) : Type 0 where
  pub tree : new.tree ≡ old.tree
  pub slots : new.slots ≡ old.slots

-- From the slots before r on nothing is remembered but what was: slot k may have been taken, with no steps from it.
pub record Takes (old new : List ℕ) (k slots r : ℕ) : Type 0 where
  pub low : k ≤ r
  pub high : r ≤ k + 1
  pub within : r ≤ slots
  pub kept : (j b : ℕ) → j < k → b < 256 → slice_index new (256 * j + b) ≡ slice_index old (256 * j + b)
  pub fresh : k < r → (b : ℕ) → b < 256 → slice_index new (256 * k + b) ≡ 0

-- The step from a slot by a byte was noted to lead to the slot `to`, and nothing else.
pub record Notes (old new : List ℕ) (slot byte to : ℕ) : Type 0 where
  pub each : (k b : ℕ) → b < 256 → (slice_index new (256 * k + b) ≡ slice_index old (256 * k + b)) ⊎
      ((k ≡ slot) × (b ≡ byte) × (slice_index new (256 * k + b) ≡ to + 1))
