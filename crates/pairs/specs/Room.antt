-- How much room the search has to be lent.
use Rattle.std.specs.Prelude.{ℕ, ◌+◌, ◌*◌, ◌/◌}

-- The words that hold a bit for each pair of n states.
abbrev pub pair_words : ℕ → ℕ
pair_words n = n * n / 32 + 1
