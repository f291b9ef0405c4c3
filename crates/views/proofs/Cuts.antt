-- A text that is cut: what the passes over it found.
use Rattle.std.proofs.Common.{ℕ, ◌<◌, List, length, subst}
use Rattle.lens.specs.Views.{View}
use Rattle.rows.specs.Rows.{Encodes}
use Rattle.clear.proofs.Lengths.{view_long}

-- A row that says a view is not empty.
pub encoded_some : {s : List ℕ} {v : View} → Encodes s v → 0 < length s
encoded_some {s} {v} e = subst (λ r. 0 < length r) e.row (view_long v)
