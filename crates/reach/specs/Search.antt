-- What the parts of the search promise: they look for a node to visit, mark where it leads, and visit one node after another.
-- Two tables of bits hold the state. `seen` has the nodes that were met, and `done` those of them that were visited.
use Rattle.std.specs.Prelude.{◌≡◌, ℕ, ◌+◌, ◌*◌, ◌^◌, ◌<◌, ◌≤◌, true, ◌⊎◌, Option, Some, None, List, length}
use Rattle.bits.specs.Bits.{bit, IsLeft}
use Rattle.reach.specs.Closed.{misses, Reached}

-- There is a bit for each of n nodes in both tables, and the number of a node fits a word.
pub record HasRoom (n : ℕ) (seen done : List ℕ) : Type 0 where
  pub small : n < 2 ^ 32
  pub seen_room : n ≤ 32 * length seen
  pub done_room : n ≤ 32 * length done

-- A node is fresh if it was met, and not visited yet.
abbrev pub Fresh : List ℕ → List ℕ → ℕ → Type 0
Fresh seen done k = IsLeft seen done k

-- `find_any`: some fresh node below n, or that there is none.
abbrev pub Picks : List ℕ → List ℕ → ℕ → Option ℕ → Type 0
Picks seen done n (Some k) = (k < n) × Fresh seen done k
Picks seen done n None = (j : ℕ) → j < n → Fresh seen done j → ⊥

-- `expand`: exactly what was marked, and where the edges out of one node lead, is marked.
-- `Out b` says that an edge leads to b.
pub record Expands (Out : ℕ → Type 0) (n : ℕ) (seen seen' : List ℕ) : Type 0 where
  pub keeps : (b : ℕ) → bit seen b ≡ true → bit seen' b ≡ true
  pub sound : (b : ℕ) → bit seen' b ≡ true → (bit seen b ≡ true) ⊎ Out b
  pub complete : (b : ℕ) → Out b → bit seen' b ≡ true
  pub within : (b : ℕ) → Out b → b < n
  pub long : length seen' ≡ length seen

-- The node a is marked, and so is every node that an edge leads to from there.
pub record Settled (E : ℕ → ℕ → Type 0) (n : ℕ) (seen : List ℕ) (a : ℕ) : Type 0 where
  pub marked : bit seen a ≡ true
  pub followed : (b : ℕ) → E a b → bit seen b ≡ true
  pub within : (b : ℕ) → E a b → b < n

-- A search went from one state to another, and visited so many nodes on the way. Such ways can be put end to end.
pub record Advances (E : ℕ → ℕ → Type 0) (n : ℕ) (seen done seen' done' : List ℕ) (visits : ℕ) : Type 0 where
  pub keeps : (b : ℕ) → bit seen b ≡ true → bit seen' b ≡ true
  pub sound : (b : ℕ) → b < n → bit seen' b ≡ true → Reached E n seen b
  pub beyond : (b : ℕ) → n ≤ b → bit seen' b ≡ true → bit seen b ≡ true
  pub settles : (a : ℕ) → bit done' a ≡ true → (bit done a ≡ true) ⊎ Settled E n seen' a
  pub counted : visits + misses (bit done') n ≡ misses (bit done) n
  pub seen_long : length seen' ≡ length seen
  pub done_long : length done' ≡ length done
