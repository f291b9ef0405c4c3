-- Sets of bytes, and their ranges.
use Rattle.std.specs.Prelude.{◌≡◌, ℕ, ◌+◌, ◌<◌, ◌≤◌, Bool, true, false, Some, None, Option, ◌≢◌}
use Rattle.bits.specs.Bits.{bit}
use Rattle.viable.specs.declared.bytes.ByteSet.{ByteSet}
use Rattle.viable.specs.declared.bytes.ByteRange.{ByteRange}

-- The byte x is in the set.
abbrev pub has_byte : ByteSet → ℕ → Bool
has_byte s x = bit s.words x

-- Of the bytes from i up to r all are in the set, or all are not, as `inside` says, and the byte r is not so.
pub record RunEnd (s : ByteSet) (i : ℕ) (inside : Bool) (r : ℕ) : Type 0 where
  pub on : i ≤ r
  pub within : r ≤ 256
  pub all : (x : ℕ) → i ≤ x → x < r → has_byte s x ≡ inside
  pub ends : r < 256 → has_byte s r ≢ inside

-- The first range of the set from i on: it can't be longer on either side.
pub record FirstRange (s : ByteSet) (i : ℕ) (r : ByteRange) : Type 0 where
  pub from : i ≤ r.low
  pub upward : r.low ≤ r.high
  pub first : (x : ℕ) → i ≤ x → x < r.low → has_byte s x ≡ false
  pub all : (x : ℕ) → r.low ≤ x → x ≤ r.high → has_byte s x ≡ true
  pub ends : r.high + 1 < 256 → has_byte s (r.high + 1) ≡ false

abbrev pub RangeFrom : ByteSet → ℕ → Option ByteRange → Type 0
RangeFrom s i (Some r) = FirstRange s i r
RangeFrom s i None = (x : ℕ) → i ≤ x → x < 256 → has_byte s x ≡ false
