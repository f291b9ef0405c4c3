-- Which pairs a search starts from, as bits of a table.
use Rattle.std.specs.Prelude.{◌≡◌, ℕ, ◌<◌, true, List}
use Rattle.automata.specs.Automaton.{Shape, Leaf}
use Rattle.automata.specs.Coded.{coded}
use Rattle.bits.specs.Bits.{bit}

-- The bit k is true, and no other.
pub record Only (words : List ℕ) (k : ℕ) : Type 0 where
  pub here : bit words k ≡ true
  pub others : (j : ℕ) → bit words j ≡ true → j ≡ k

-- The node k is the pair of m and a leaf below i, and is marked in `seen`.
pub record Entry (n : ℕ) (shape : ℕ → Shape ℕ) (m : ℕ) (seen : List ℕ) (i k : ℕ) : Type 0 where
  pub state : ℕ
  pub below : state < i
  pub is : k ≡ coded n (m, state)
  pub leaf : Leaf (shape state)
  pub marked : bit seen k ≡ true

-- Of the pairs of m and a state below i, those are marked in `entered` that are marked in `seen` and whose second state
-- is a leaf; and no other node is.
pub record Enters (n : ℕ) (shape : ℕ → Shape ℕ) (m : ℕ) (seen : List ℕ) (i : ℕ) (entered : List ℕ) : Type 0 where
  pub sound : (k : ℕ) → bit entered k ≡ true → Entry n shape m seen i k
  pub complete : (q : ℕ) → q < i → Leaf (shape q) → bit seen (coded n (m, q)) ≡ true → bit entered (coded n (m, q)) ≡ true
