-- What words say as records of four words each, and what a write of one does to them.
use Rattle.std.specs.Prelude.{◌≡◌, ℕ, ◌+◌, ◌*◌, ◌≢◌, List, [], ◌∷◌, length, slice_index}

-- The record of place k. Past the end every word is 0.
abbrev pub record_at : List ℕ → ℕ → List ℕ
record_at words k = slice_index words (4 * k) ∷ slice_index words (4 * k + 1) ∷ slice_index words (4 * k + 2) ∷ slice_index words (4 * k + 3) ∷ []

-- The record of place k was written, and the others stand as they were.
pub record PutsRecord (old : List ℕ) (k : ℕ) (written : List ℕ) (new : List ℕ) : Type 0 where
  pub here : record_at new k ≡ written
  pub others : (j : ℕ) → j ≢ k → record_at new j ≡ record_at old j
  pub long : length new ≡ length old
