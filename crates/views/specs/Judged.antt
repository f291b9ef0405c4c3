-- What `judge` promises.
use Rattle.std.specs.Prelude.{◌≡◌, ℕ, ◌+◌, ◌*◌, ◌<◌, min, ◌↔◌, List, length}
use Rattle.lens.specs.Views.{View}
use Rattle.lens.specs.Clear.{Clear}
use Rattle.rows.specs.Rows.{Encodes}
use Rattle.views.specs.declared.judging.Judged.{Judged}
use Rattle.views.specs.declared.judging.Judged.TheVariants.{Plain, Unclear, NoView, Few}
use Rattle.views.specs.Theorems.{Theorems}

-- What each answer says of the bytes.
abbrev pub JudgedSays : List ℕ → Judged → Type 0
JudgedSays s Plain = (v : View) × Encodes s v × Clear v
JudgedSays s Unclear = (v : View) × Encodes s v × (Clear v → ⊥)
JudgedSays s NoView = (v : View) → Encodes s v → ⊥
JudgedSays s Few = Unit {0}

-- How many bytes count: all bytes that are too many count as 1,025.
abbrev pub counted : List ℕ → ℕ
counted s = min 1025 (length s)

-- The work words that judging wants.
abbrev pub floor : List ℕ → ℕ
floor s = 4096 + counted s * counted s

pub record JudgedPost (s : List ℕ) (w : ℕ) (r : Judged) : Type 0 where
  pub says : JudgedSays s r
  pub few : (w < floor s) ↔ (r ≡ Few)
  pub theorems : Theorems
