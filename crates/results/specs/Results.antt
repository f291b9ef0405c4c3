-- What comes of a call in the memory of a program: the text that is wanted, or why there is none.
use Rattle.std.specs.Prelude.{◌≡◌, ℕ, ◌+◌, ◌<◌, List, Ok, Err, length, take}
use Rattle.lens.specs.Forms.{Text}
use Rattle.lens.specs.Views.{View}
use Rattle.lens.specs.Clear.{Clear}
use Rattle.rows.specs.Rows.{Encodes}
use Rattle.views.specs.Made.{Made}
use Rattle.views.specs.declared.made.Refused.TheVariants.{Muddy, NoSuch, NoSource, NoLook, Full, Small}
use Rattle.results.specs.declared.calling.Unmade.{Unmade}
use Rattle.results.specs.declared.calling.Unmade.TheVariants as un
use Rattle.results.specs.Room.{limit, need}

-- The text x comes of a call: the row s says a clear view v, and `Comes v x` that x is what it wants.
abbrev pub Wanted : List ℕ → (View → Text → Type 0) → Text → Type 0
Wanted s Comes x = (v : View) × Encodes s v × Clear v × Comes v x

-- Why nothing comes of it, where the texts have t bytes in all, and `Source v` and `Look v` say that they are of the view.
abbrev pub Unwanted : List ℕ → ℕ → (View → Text → Type 0) → (View → Type 0) → (View → Type 0) → Unmade → Type 0
Unwanted s t Comes Source Look un.NoRow = (v : View) → Encodes s v → ⊥
Unwanted s t Comes Source Look un.Unclear = (v : View) × Encodes s v × (Clear v → ⊥)
Unwanted s t Comes Source Look un.NoSource = (v : View) × Encodes s v × Clear v × (Source v → ⊥)
Unwanted s t Comes Source Look un.NoLook = (v : View) × Encodes s v × Clear v × (Look v → ⊥)
Unwanted s t Comes Source Look (un.Large n) = (n ≡ need (length s) t) × (limit < n)
Unwanted s t Comes Source Look (un.Long n) = (v : View) × (x : Text) × Encodes s v × Clear v × Comes v x × (n < length x) × (need (length s) t + n ≡ limit)
Unwanted s t Comes Source Look un.Memory = Unit {0}

-- Why nothing is lent to such a call.
abbrev pub Unlent : ℕ → ℕ → Unmade → Type 0
Unlent n t un.NoRow = ⊥
Unlent n t un.Unclear = ⊥
Unlent n t un.NoSource = ⊥
Unlent n t un.NoLook = ⊥
Unlent n t (un.Large k) = (k ≡ need n t) × (limit < k)
Unlent n t (un.Long k) = ⊥
Unlent n t un.Memory = Unit {0}

-- The text x that an answer leaves of the bytes o that were lent.
abbrev pub Leaves : Made → List ℕ → Text → Type 0
Leaves (Ok n) o x = x ≡ take n o
Leaves (Err why) o x = ⊥

-- Why it leaves none, of so many bytes.
abbrev pub LeavesNone : Made → ℕ → Unmade → Type 0
LeavesNone (Ok n) k why = ⊥
LeavesNone (Err Muddy) k why = why ≡ un.Unclear
LeavesNone (Err NoSuch) k why = why ≡ un.NoRow
LeavesNone (Err NoSource) k why = why ≡ un.NoSource
LeavesNone (Err NoLook) k why = why ≡ un.NoLook
LeavesNone (Err Full) k why = why ≡ un.Long k
LeavesNone (Err Small) k why = why ≡ un.Memory
