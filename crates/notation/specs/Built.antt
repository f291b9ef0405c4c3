-- A row under construction, of which only the length is kept once it is longer than 1,024 bytes.
use Rattle.std.specs.Prelude.{◌≡◌, ℕ, ◌-◌, ◌^◌, ◌≤◌, min, List, length}

-- The bytes kept and the length kept stand for the row s.
pub record Stands (bytes : List ℕ) (total : ℕ) (s : List ℕ) : Type 0 where
  pub long : total ≡ min (length s) (2 ^ 64 - 1)
  pub kept : total ≤ 1024 → bytes ≡ s

-- Whatever row they stood for, they stand for its image under f afterwards.
pub record Becomes (bytes : List ℕ) (total : ℕ) (bytes' : List ℕ) (total' : ℕ) (f : List ℕ → List ℕ) : Type 0 where
  pub stands : (s : List ℕ) → Stands bytes total s → Stands bytes' total' (f s)
