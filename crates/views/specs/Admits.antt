-- What is asked before a call on texts cuts any.
use Rattle.std.specs.Prelude.{ℕ, ◌<◌, ◌≤◌, List}
use Rattle.lens.specs.Views.{View}
use Rattle.lens.specs.Clear.{Clear}
use Rattle.rows.specs.Rows.{Encodes}
use Rattle.views.specs.declared.made.Refused.{Refused}
use Rattle.views.specs.declared.made.Refused.TheVariants.{Muddy, NoSuch, NoSource, NoLook, Full, Small}
use Rattle.views.specs.Room.{room}
use Rattle.views.specs.Cut.{ClearRow}

-- The row s says a clear view, and w work words are enough for texts of n bytes.
pub record Admitted (s : List ℕ) (n w : ℕ) : Type 0 where
  pub clear : ClearRow s
  pub enough : room s n ≤ w

-- Why a call on them is refused before any text is cut.
abbrev pub Rejected : List ℕ → ℕ → ℕ → Refused → Type 0
Rejected s n w Muddy = (room s n ≤ w) × ((v : View) × Encodes s v × (Clear v → ⊥))
Rejected s n w NoSuch = (room s n ≤ w) × ((v : View) → Encodes s v → ⊥)
Rejected s n w NoSource = ⊥
Rejected s n w NoLook = ⊥
Rejected s n w Full = ⊥
Rejected s n w Small = w < room s n
