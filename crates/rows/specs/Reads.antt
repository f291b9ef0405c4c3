-- What the public calls of the reader promise.
use Rattle.std.specs.Prelude.{◌≡◌, ℕ, ◌<◌, ◌≤◌, Bool, List, length, None, MatchBool, MatchOption, Option}
use Rattle.rows.specs.declared.row.Row.{Row}
use Rattle.lens.specs.Views.{View}
use Rattle.rows.specs.declared.parts.Kind.{Kind}
use Rattle.rows.specs.Rows.{Encodes, OneView}
use Rattle.rows.specs.Parts.{PartEnds}

-- `is_view`: yes exactly if the bytes say a view; and they say one at most.
pub record IsView (s : List ℕ) (r : Bool) : Type 0 where
  pub says : MatchBool r ((v : View) × Encodes s v) ((v : View) → Encodes s v → ⊥)
  pub one : OneView

-- `part_end`: where the part at a place ends, or that none begins there; rows that are too long have no parts.
pub record PartEnd (k : Kind) (s : List ℕ) (at : ℕ) (r : Option ℕ) : Type 0 where
  pub ends : length s ≤ 1024 → PartEnds k s at r
  pub long : 1024 < length s → r ≡ None

-- `Row::new`: the bytes as a row, if they are few enough.
abbrev pub Taken : List ℕ → Option Row → Type 0
Taken s r = MatchOption r (1024 < length s) (λ row. row.bytes.now ≡ s)

-- `Row::of_view`: the bytes as a row, if they say a view.
abbrev pub Read : List ℕ → Option Row → Type 0
Read s r = MatchOption r ((v : View) → Encodes s v → ⊥) (λ row. (row.bytes.now ≡ s) × ((v : View) × Encodes s v))
