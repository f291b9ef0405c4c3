-- What a whole search promises: it marks exactly what is reached from the nodes that were marked at the start.
-- Not here: what its parts promise (Search).
use Rattle.std.specs.Prelude.{◌≡◌, ℕ, zero, suc, ◌+◌, ◌<◌, ◌≤◌, Bool, true, cond, List, length}
use Rattle.bits.specs.Bits.{bit}
use Rattle.reach.specs.Reach.{Reach}

-- How many numbers below n fail the test p.
abbrev pub misses : (ℕ → Bool) → ℕ → ℕ
misses p zero = 0
misses p (suc n) = cond (p n) 0 1 + misses p n

-- Some node below n is marked, and b is reached from it.
pub record Reached (E : ℕ → ℕ → Type 0) (n : ℕ) (seen : List ℕ) (b : ℕ) : Type 0 where
  pub start : ℕ
  pub less : start < n
  pub marked : bit seen start ≡ true
  pub path : Reach E start b

-- A search over the nodes below n: what was marked in `seen` at the start, what is marked at the end, and how many nodes
-- it visited, which are those that are marked at the end.
pub record Closed (E : ℕ → ℕ → Type 0) (n : ℕ) (seen seen' : List ℕ) (visits : ℕ) : Type 0 where
  pub sound : (b : ℕ) → b < n → bit seen' b ≡ true → Reached E n seen b
  pub complete : (b : ℕ) → b < n → Reached E n seen b → bit seen' b ≡ true
  pub beyond : (b : ℕ) → n ≤ b → bit seen' b ≡ bit seen b
  pub counted : visits + misses (bit seen') n ≡ n
  pub long : length seen' ≡ length seen
