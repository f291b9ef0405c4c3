-- What is said of a row: whether the view that it says is clear, on one side and as a whole; and that a side is laid.
use Rattle.std.specs.Prelude.{◌≡◌, ℕ, ◌+◌, ◌*◌, ◌<◌, List, length, Decides}
use Rattle.lens.specs.Views.{View}
use Rattle.lens.specs.Clear.{Clear}
use Rattle.rows.specs.Rows.{Encodes}
use Rattle.clear.specs.declared.side.Side.{Side}
use Rattle.automata.specs.Automaton.{stop, Acts}
use Rattle.pairs.specs.Table.{shape_at}
use Rattle.pairs.specs.declared.answer.Answer.{Answer}
use Rattle.clear.specs.Sides.{side_form, ClearOn}

-- The words that telling wants for a row of n bytes.
abbrev pub clear_words : ℕ → ℕ
clear_words n = 4096 + n * n

pub record TellsSide (side : Side) (s : List ℕ) (r : Answer) : Type 0 where
  pub tells : (v : View) → Encodes s v → Decides r.yes (ClearOn side v)

pub record Tells (s : List ℕ) (r : Answer) : Type 0 where
  pub tells : (v : View) → Encodes s v → Decides r.yes (Clear v)

-- The table t has the side of the row's view: from the state 0 to the row's length, where it stops.
pub record Lays (side : Side) (s t : List ℕ) : Type 0 where
  pub acts : (v : View) → Encodes s v → Acts (shape_at t) (λ p. p < length s) (side_form side v) 0 (length s)
  pub stops : (v : View) → Encodes s v → shape_at t (length s) ≡ stop
