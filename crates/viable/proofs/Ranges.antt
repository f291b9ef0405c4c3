-- Where a run of bytes that are all in a set, or all not, ends.
use Rattle.std.proofs.Common.{◌≡◌, ℕ, ◌<◌, ◌≤◌, Bool, ◌≢◌, Option, Some, None, MatchOption, arith}
use Rattle.std.specs.Option.{unwrap_or}
use Rattle.viable.specs.declared.bytes.ByteSet.{ByteSet}
use Rattle.viable.specs.Bytes.{has_byte, RunEnd}

-- The first byte that is otherwise, or none
pub run_end : (s : ByteSet) (i : ℕ) (inside : Bool) (r : Option ℕ) → i ≤ 255
    → MatchOption r ((x : ℕ) → i ≤ x → x < 256 → has_byte s x ≡ inside)
    (λ k. (i ≤ k) × (k < 256) × (has_byte s k ≢ inside) × ((x : ℕ) → i ≤ x → x < k → has_byte s x ≡ inside))
    → RunEnd s i inside (unwrap_or r 256)
run_end s i inside None low all = record { on = omega arith; within = omega arith; all = all; ends = λ less. absurd (omega arith) }
run_end s i inside (Some k) low (on, less, ends, all) = record { on = on; within = omega arith; all = all; ends = λ _. ends }
