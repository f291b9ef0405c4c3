-- Where the parts of a view stand in the tree of one of its sides: at the places at which they stand in the row.
use Rattle.std.specs.Prelude.{◌≡◌, ℕ, ◌+◌, List, length}
use Rattle.lens.specs.Forms.{Form, Text, exactly}
use Rattle.lens.specs.Views.{View, copy, hide, then, swap, either, each}
use Rattle.rows.specs.Rows.{form_row, view_row}
use Rattle.clear.specs.declared.side.Side.{Side}
use Rattle.clear.specs.declared.side.Side.TheVariants.{Source, Look}
use Rattle.trees.specs.declared.nodes.Node.TheVariants.{Seq, Or, Many, Same}
use Rattle.trees.specs.Nodes.{node_at}
use Rattle.trees.specs.Tree.{Grows}

-- `Planted t side at v`: the tree t has the view v at the place `at`, and its parts at their places of the row. The looks
-- of swap stand in the other order; a hide has its form on the sources' side, and the text that it shows on the other.
pub data Planted (t : List ℕ) : Side → ℕ → View → Type 0 where
  planted_copy : {side : Side} {at : ℕ} {f : Form} → node_at t at ≡ Same (at + 1) → Grows t (at + 1) f → Planted t side at (copy f)
  planted_hidden : {at : ℕ} {f : Form} {v d : Text} → node_at t at ≡ Same (at + 1) → Grows t (at + 1) f → Planted t Source at (hide f v d)
  planted_shown : {at : ℕ} {f : Form} {v d : Text} (m : ℕ) → m ≡ at + 1 + length (form_row f) → node_at t at ≡ Same m → Grows t m (exactly v) → Planted t Look at (hide f v d)
  planted_then : {side : Side} {at : ℕ} {k l : View} (m : ℕ) → m ≡ at + 1 + length (view_row k) → node_at t at ≡ Seq (at + 1) m → Planted t side (at + 1) k → Planted t side m l → Planted t side at (then k l)
  planted_swap : {at : ℕ} {k l : View} (m : ℕ) → m ≡ at + 1 + length (view_row k) → node_at t at ≡ Seq (at + 1) m → Planted t Source (at + 1) k → Planted t Source m l → Planted t Source at (swap k l)
  planted_turned : {at : ℕ} {k l : View} (m : ℕ) → m ≡ at + 1 + length (view_row k) → node_at t at ≡ Seq m (at + 1) → Planted t Look (at + 1) k → Planted t Look m l → Planted t Look at (swap k l)
  planted_either : {side : Side} {at : ℕ} {k l : View} (m : ℕ) → m ≡ at + 1 + length (view_row k) → node_at t at ≡ Or (at + 1) m → Planted t side (at + 1) k → Planted t side m l → Planted t side at (either k l)
  planted_each : {side : Side} {at : ℕ} {l : View} → node_at t at ≡ Many (at + 1) → Planted t side (at + 1) l → Planted t side at (each l)
