-- What is written into a row: the forms that have no parts in the notation.
use Rattle.std.specs.Prelude.{ℕ, ◌≤◌, List, [], ◌∷◌, vec_items}
use Rattle.lens.specs.Forms.{Text, Form, empty, one, seq}
use Rattle.notation.specs.declared.row.Row.{Row}
use Rattle.notation.specs.Built.{Becomes}

-- Whatever row p stood for, q stands for its image under f, which is no shorter.
pub record Grown (p q : Row) (f : List ℕ → List ℕ) : Type 0 where
  pub grows : p.total ≤ q.total
  pub becomes : Becomes (vec_items p.bytes) p.total (vec_items q.bytes) q.total f

-- The form of one text alone: its bytes, one after the other.
abbrev pub spelled : Text → Form
spelled [] = empty
spelled (x ∷ []) = one x x
spelled (x ∷ y ∷ ys) = seq (one x x) (spelled (y ∷ ys))
