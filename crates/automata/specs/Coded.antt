-- Pairs of states as numbers, for states that are numbers below n: what a search over a table goes by.
use mathlib.Core.List.{List, map, Memᴰ}
use Rattle.std.specs.Prelude.{ℕ, ◌+◌, ◌*◌, ◌/◌, ◌%◌, ◌<◌}
use Rattle.automata.specs.Automaton.{Shape, Targets, moves}

abbrev pub coded : ℕ → ℕ × ℕ → ℕ
coded n s = s.0 * n + s.1

abbrev pub Below : ℕ → ℕ × ℕ → Type 0
Below n s = (s.0 < n) × (s.1 < n)

-- Where the pair that k stands for can move.
abbrev pub coded_moves : ℕ → (ℕ → Shape ℕ) → ℕ → List ℕ
coded_moves n shape k = map (coded n) (moves (k / n) (k % n) (shape (k / n)) (shape (k % n)))

abbrev pub Edge : ℕ → (ℕ → Shape ℕ) → ℕ → ℕ → Type 0
Edge n shape k l = Memᴰ l (coded_moves n shape k)

-- The states below n go on at states below n alone.
abbrev pub Inner : ℕ → (ℕ → Shape ℕ) → Type 0
Inner n shape = (p : ℕ) → p < n → Targets (λ q. q < n) (shape p)
