-- The moves of an automaton without a byte, as edges between its states.
use Rattle.std.specs.Prelude.{ℕ, List}
use Rattle.automata.proofs.Runs.{Silent}
use Rattle.pairs.specs.Table.{shape_at}
use Rattle.pairs.specs.declared.table.Step.{Step}
use Rattle.pairs.specs.declared.table.Step.TheVariants.{Stop, To, Fork, Leaf}
use Rattle.reach.specs.declared.graph.Moves.{Moves}
use Rattle.reach.specs.declared.graph.Moves.TheVariants.{None, One, Two}

-- The state p can go on at q without a byte, by the table t.
abbrev pub Quiet : List ℕ → ℕ → ℕ → Type 0
Quiet t p q = Silent (shape_at t p) q

-- Where a step goes on without a byte.
abbrev pub quiet_moves : Step → Moves
quiet_moves Stop = None
quiet_moves (To q) = One q
quiet_moves (Fork q r) = Two q r
quiet_moves (Leaf a b q) = None
