-- The pairs of states of a table as a graph: a pair is a number, and its moves are edges.
use Rattle.std.specs.Prelude.{ℕ, suc, ◌≤◌, max, List, [], ◌∷◌, map, nat_eq}
use Rattle.automata.specs.Automaton.{Shape, stop, to, fork, leaf, moves, ended}
use Rattle.automata.specs.Coded.{coded}
use Rattle.pairs.specs.Table.{shape_at}
use Rattle.reach.specs.declared.graph.Moves.{Moves}
use Rattle.reach.specs.declared.graph.Moves.TheVariants.{None, One, Two}

-- What the states of the table t do, with the state e stopped.
abbrev pub stopped : List ℕ → ℕ → ℕ → Shape ℕ
stopped t e = ended (λ s. nat_eq s e) (shape_at t)

-- The first number past the states where a shape goes on.
abbrev pub past : Shape ℕ → ℕ
past stop = 0
past (to q) = suc q
past (fork q r) = max (suc q) (suc r)
past (leaf a b q) = suc q

-- Every state goes on among the first n states, said so that it can hold in one way only.
abbrev pub Stays : ℕ → List ℕ → Type 0
Stays n t = (p : ℕ) → past (shape_at t p) ≤ n

-- The numbers of the pairs where the pair of p and q moves, if they do as the shapes say.
abbrev pub numbered : ℕ → ℕ → ℕ → Shape ℕ → Shape ℕ → List ℕ
numbered n p q s t = map (coded n) (moves p q s t)

-- Where the moves of a node lead, in their order.
abbrev pub listed : Moves → List ℕ
listed None = []
listed (One x) = x ∷ []
listed (Two x y) = x ∷ y ∷ []
