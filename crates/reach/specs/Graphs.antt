-- What the moves of a node say of the edges out of it.
use Rattle.std.specs.Prelude.{◌≡◌, ℕ, ◌<◌, ◌⊎◌}
use Rattle.reach.specs.declared.graph.Moves.{Moves}
use Rattle.reach.specs.declared.graph.Moves.TheVariants.{None, One, Two}

-- b is one of the moves.
abbrev pub Among : Moves → ℕ → Type 0
Among None b = ⊥
Among (One x) b = b ≡ x
Among (Two x y) b = (b ≡ x) ⊎ (b ≡ y)

-- The moves m lead exactly where the edges out of a node do, and to nodes below n. `Out b` says that an edge leads to b.
pub record Leads (Out : ℕ → Type 0) (n : ℕ) (m : Moves) : Type 0 where
  pub sound : (b : ℕ) → Among m b → Out b
  pub complete : (b : ℕ) → Out b → Among m b
  pub within : (b : ℕ) → Among m b → b < n
