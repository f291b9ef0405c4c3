-- What stands at a place of a row, for anything that has a row of its own.
use Rattle.std.specs.Prelude.{◌≡◌, ℕ, ◌+◌, ◌<◌, ◌≤◌, List, ◌++◌, length, drop, Some, None, Option, ◌≢◌}

-- At place `at` of the row s stands something, and it ends at place e.
pub record Stands {A : Type 0} (row : A → List ℕ) (fine : A → Type 0) (s : List ℕ) (at e : ℕ) : Type 0 where
  pub thing : A
  pub sound : fine thing
  pub less : at < e
  pub within : e ≤ length s
  pub laid : drop at s ≡ row thing ++ drop e s

-- Nothing begins at place `at` of the row s.
pub record Nowhere {A : Type 0} (row : A → List ℕ) (fine : A → Type 0) (s : List ℕ) (at : ℕ) : Type 0 where
  pub never : (x : A) (r : List ℕ) → fine x → drop at s ≢ row x ++ r

-- A reader says where the thing at place `at` ends, or that there is none.
abbrev pub Ends : {A : Type 0} (row : A → List ℕ) (fine : A → Type 0) → List ℕ → ℕ → Option ℕ → Type 0
Ends row fine s at (Some e) = Stands row fine s at e
Ends row fine s at None = Nowhere row fine s at

-- Two things, one after the other.
abbrev pub both_row : {A B : Type 0} → (A → List ℕ) → (B → List ℕ) → A × B → List ℕ
both_row row row' p = row p.0 ++ row' p.1

abbrev pub BothFine : {A B : Type 0} → (A → Type 0) → (B → Type 0) → A × B → Type 0
BothFine fine fine' p = fine p.0 × fine' p.1

-- The bytes h stand at place `at` of the row s.
pub record Heads (s : List ℕ) (at : ℕ) (h : List ℕ) : Type 0 where
  pub laid : drop at s ≡ h ++ drop (at + length h) s
  pub within : at + length h ≤ length s
