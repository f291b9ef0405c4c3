-- The row of a worked view: digits shown, and the letter behind them hidden.
use Rattle.std.specs.Prelude.{[], ◌∷◌}
use Rattle.lens.specs.Cases.{number}
use Rattle.rows.specs.Rows.{Encodes}

abbrev pub NumberRow : Type 0
NumberRow = Encodes (12 ∷ 10 ∷ 4 ∷ 1 ∷ 48 ∷ 57 ∷ 11 ∷ 1 ∷ 97 ∷ 122 ∷ 0 ∷ 1 ∷ 120 ∷ []) number
