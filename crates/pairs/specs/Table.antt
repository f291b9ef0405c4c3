-- An automaton in lent words: four words a state, a kind and what belongs to it.
use Rattle.std.specs.Prelude.{◌≡◌, ℕ, ◌<◌, cond, List, ◌==◌, ◌≢◌, slice_index}
use Rattle.records.specs.Records.{record_at}
use Rattle.automata.specs.Automaton.{Shape, stop, to, fork, leaf, Targets}
use Rattle.pairs.specs.declared.table.Step.{Step}
use Rattle.pairs.specs.declared.table.Step.TheVariants.{Stop, To, Fork, Leaf}

-- The four words of a state: 1 goes on at x; 2 goes on at x or y; 3 reads a byte from x to y and goes on at z;
-- any other kind stops.
abbrev pub shape_of : ℕ → ℕ → ℕ → ℕ → Shape ℕ
shape_of kind x y z = cond (kind == 1) (to x) (cond (kind == 2) (fork x y) (cond (kind == 3) (leaf x y z) stop))

abbrev pub shape_of_words : List ℕ → Shape ℕ
shape_of_words w = shape_of (slice_index w 0) (slice_index w 1) (slice_index w 2) (slice_index w 3)

-- What the state p does, by the table t. States past the end of the table stop.
abbrev pub shape_at : List ℕ → ℕ → Shape ℕ
shape_at t p = shape_of_words (record_at t p)

-- A step of the code, as a shape.
abbrev pub shape : Step → Shape ℕ
shape Stop = stop
shape (To q) = to q
shape (Fork q r) = fork q r
shape (Leaf a b q) = leaf a b q

-- Where a shape goes on is below n.
abbrev pub Inside : ℕ → Shape ℕ → Type 0
Inside n s = Targets (λ q. q < n) s

-- Every state goes on among the first n states.
pub record Bounded (n : ℕ) (t : List ℕ) : Type 0 where
  pub inside : (p : ℕ) → Inside n (shape_at t p)

-- The table t' is t with the state p changed to s.
pub record Changed (t t' : List ℕ) (p : ℕ) (s : Shape ℕ) : Type 0 where
  pub here : shape_at t' p ≡ s
  pub elsewhere : (q : ℕ) → (q ≢ p) → shape_at t' q ≡ shape_at t q
