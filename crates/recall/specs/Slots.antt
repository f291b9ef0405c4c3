-- Rows of bits in slots of whole words.
use Rattle.std.specs.Prelude.{◌≡◌, ℕ, ◌+◌, ◌*◌, ◌/◌, ◌<◌, ◌≤◌, Bool, List}
use Rattle.bits.specs.Bits.{bit}

-- The words of a slot for rows of n bits.
abbrev pub width : ℕ → ℕ
width n = n / 32 + 1

-- The bit q of the row in slot k.
abbrev pub slot_bit : ℕ → List ℕ → ℕ → ℕ → Bool
slot_bit n rows k q = bit rows (32 * (k * width n) + q)

-- Of a row of n bits, the first m bits from `row` on were kept in slot k, and the slots before it are as they were.
pub record Keeps (n : ℕ) (bits : List ℕ) (row : ℕ) (old new : List ℕ) (k m : ℕ) : Type 0 where
  pub here : (q : ℕ) → q < m → slot_bit n new k q ≡ bit bits (row + q)
  pub before : (j : ℕ) → j < 32 * (k * width n) → bit new j ≡ bit old j

-- The first m bits of slot k were copied to the bits from `row` on, and the bits behind the n bits there are as they were.
pub record Copies (n : ℕ) (rows : List ℕ) (k : ℕ) (old new : List ℕ) (row m : ℕ) : Type 0 where
  pub here : (q : ℕ) → q < m → bit new (row + q) ≡ slot_bit n rows k q
  pub behind : (j : ℕ) → row + n ≤ j → bit new j ≡ bit old j

-- Two slots have the same row.
pub record SameSlots (n : ℕ) (rows : List ℕ) (k k' : ℕ) : Type 0 where
  pub same : (q : ℕ) → q < n → slot_bit n rows k q ≡ slot_bit n rows k' q

-- The slot r, before k, has the row of k.
pub record Finds (n : ℕ) (rows : List ℕ) (k r : ℕ) : Type 0 where
  pub before : r < k
  pub same : SameSlots n rows r k
