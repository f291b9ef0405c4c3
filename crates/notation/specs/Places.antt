-- Lines and columns: where one stands behind some bytes. Both begin at 1; a column counts bytes.
use Rattle.std.specs.Prelude.{ℕ, ◌+◌, cond, List, [], ◌∷◌, ◌==◌}

-- From line n on, a newline leads to the next line.
abbrev pub line_from : ℕ → List ℕ → ℕ
line_from n [] = n
line_from n (x ∷ xs) = line_from (cond (x == 10) (n + 1) n) xs

-- From column n on, a newline leads to column 1, and any other byte to the next.
abbrev pub column_from : ℕ → List ℕ → ℕ
column_from n [] = n
column_from n (x ∷ xs) = column_from (cond (x == 10) 1 (n + 1)) xs

abbrev pub line_of : List ℕ → ℕ
line_of xs = line_from 1 xs

abbrev pub column_of : List ℕ → ℕ
column_of xs = column_from 1 xs
