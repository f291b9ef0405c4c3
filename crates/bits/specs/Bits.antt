-- What a row of words of 32 bits says as a table of bits, and what the calls of this crate do to it.
use Rattle.std.specs.Prelude.{◌≡◌, ℕ, ◌+◌, ◌*◌, ◌/◌, ◌%◌, ◌^◌, ◌<◌, ◌≤◌, Bool, true, false, ◌≢◌, ◌⊎◌, Option, Some, None, List, length, Decides, ◌==◌, slice_index}

-- Bit k of the words, the lowest bit of a word first. Past the end every bit is false.
abbrev pub bit : List ℕ → ℕ → Bool
bit words k = slice_index words (k / 32) / 2 ^ (k % 32) % 2 == 1

-- Bit k was given the value v, and the others stand as they were.
pub record Puts (old : List ℕ) (k : ℕ) (v : Bool) (new : List ℕ) : Type 0 where
  pub here : bit new k ≡ v
  pub others : (j : ℕ) → j ≢ k → bit new j ≡ bit old j
  pub long : length new ≡ length old

-- Every bit is false.
pub record Clears (old new : List ℕ) : Type 0 where
  pub none : (k : ℕ) → bit new k ≡ false
  pub long : length new ≡ length old

-- Bit k is true in the one table and false in the other.
pub record IsLeft (words without : List ℕ) (k : ℕ) : Type 0 where
  pub has : bit words k ≡ true
  pub lacks : bit without k ≡ false

-- The bits of the word w are those of word i that are left.
pub record LeftWord (words without : List ℕ) (i w : ℕ) : Type 0 where
  pub each : (k : ℕ) → k / 32 ≡ i → Decides (w / 2 ^ (k % 32) % 2 == 1) (IsLeft words without k)

-- Bit k is the first from i on that is left, and is below n.
pub record FirstLeft (words without : List ℕ) (n i k : ℕ) : Type 0 where
  pub from : i ≤ k
  pub below : k < n
  pub left : IsLeft words without k
  pub none : (j : ℕ) → i ≤ j → j < k → IsLeft words without j → ⊥

-- The first bit from i on, below n, that is left, or that there is none.
abbrev pub FirstFrom : List ℕ → List ℕ → ℕ → ℕ → Option ℕ → Type 0
FirstFrom words without n i (Some k) = FirstLeft words without n i k
FirstFrom words without n i None = (j : ℕ) → i ≤ j → j < n → IsLeft words without j → ⊥

-- The word w with the n digits of v from digit k on.
abbrev pub with_field : ℕ → ℕ → ℕ → ℕ → ℕ
with_field w k n v = ((w / 2 ^ (k + n)) * 2 ^ n + v) * 2 ^ k + w % 2 ^ k

-- The n bits from k on were given the lowest n digits of v, and the others stand as they were.
pub record PutsBits (old : List ℕ) (k n v : ℕ) (new : List ℕ) : Type 0 where
  pub here : (j : ℕ) → j < n → bit new (k + j) ≡ (v / 2 ^ j % 2 == 1)
  pub others : (j : ℕ) → (j < k) ⊎ (k + n ≤ j) → bit new j ≡ bit old j
  pub long : length new ≡ length old
