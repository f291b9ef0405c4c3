-- No bit was left before the one that the scan has come to.
use Rattle.std.proofs.Common.{ℕ, ◌-◌, ◌<◌, ◌≤◌}
use Rattle.bits.specs.Bits.{IsLeft}
use Rattle.bits.proofs.first.Given as goal

abbrev pub invariant-loop-k : goal.invariant-loop-k
invariant-loop-k l = (l.from ≤ l.k) × ((j : ℕ) → l.from ≤ j → j < l.k → IsLeft l.words l.without j → ⊥)

abbrev pub decreases-loop-k : goal.decreases-loop-k
decreases-loop-k l = l.size - l.k
