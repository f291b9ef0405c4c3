-- The marks of a text's parts in words, a row of nodes for each place, as the table of what begins where.
use Rattle.std.specs.Prelude.{ℕ, List}
use Rattle.trees.specs.declared.scanned.Scanned.{Scanned}
use Rattle.lens.specs.Forms.{Text}
use Rattle.trees.specs.Cells.{cell_of, begun_of}
use Rattle.marks.specs.Cut.{Cut, whole}

-- The part of the node q that begins at i ends at e, by bits in rows of n nodes: by those of what begins where in the text, and
-- by the marks of it and its parts.
abbrev pub PartOf : List ℕ → ℕ → Text → List ℕ → List ℕ → ℕ → ℕ → ℕ → Type 0
PartOf words n text starts marks q i e = Cut words (begun_of n text starts) (cell_of n marks) (whole q) i e

-- The same of a text with its table.
abbrev pub Part : Scanned → List ℕ → ℕ → ℕ → ℕ → Type 0
Part scanned marks = PartOf scanned.tree.words.now scanned.tree.size scanned.text.now scanned.starts.now marks
