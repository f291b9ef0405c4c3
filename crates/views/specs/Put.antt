-- What `put` promises.
use Rattle.std.specs.Prelude.{◌≡◌, ℕ, ◌+◌, ◌<◌, ◌↔◌, List, Ok, Err, length}
use Rattle.lens.specs.Forms.{Text, Matches}
use Rattle.lens.specs.Views.{View, sources, looks, Puts}
use Rattle.lens.specs.Clear.{Clear}
use Rattle.rows.specs.Rows.{Encodes}
use Rattle.views.specs.declared.made.Refused.TheVariants.{Muddy, NoSuch, NoSource, NoLook, Full, Small}
use Rattle.views.specs.Room.{room}
use Rattle.views.specs.Made.{Made, Written}
use Rattle.views.specs.Theorems.{Theorems}

-- What each answer says of the view s, the source a, the look b, and the bytes lent for the new source before and after.
abbrev pub PutSays : List ℕ → Text → Text → List ℕ → List ℕ → Made → Type 0
PutSays s a b o o' (Ok n) = (v : View) × (x : Text) × Encodes s v × Clear v × Puts v b a x × Written x o o' n
PutSays s a b o o' (Err Muddy) = (v : View) × Encodes s v × (Clear v → ⊥) × (o' ≡ o)
PutSays s a b o o' (Err NoSuch) = ((v : View) → Encodes s v → ⊥) × (o' ≡ o)
PutSays s a b o o' (Err NoSource) = (v : View) × Encodes s v × Clear v × (Matches (sources v) a → ⊥) × (o' ≡ o)
PutSays s a b o o' (Err NoLook) = (v : View) × Encodes s v × Clear v × Matches (sources v) a × (Matches (looks v) b → ⊥) × (o' ≡ o)
PutSays s a b o o' (Err Full) = (v : View) × (x : Text) × Encodes s v × Clear v × Puts v b a x × (length o < length x) × (o' ≡ o)
PutSays s a b o o' (Err Small) = o' ≡ o

pub record PutPost (s : List ℕ) (a b : Text) (o o' : List ℕ) (w : ℕ) (r : Made) : Type 0 where
  pub says : PutSays s a b o o' r
  pub small : (w < room s (length a + length b)) ↔ (r ≡ Err Small)
  pub theorems : Theorems

-- The same where the view is known to be clear and the words to be enough.
pub record PutClearedPost (s : List ℕ) (a b : Text) (o o' : List ℕ) (r : Made) : Type 0 where
  pub says : PutSays s a b o o' r
  pub large : r ≡ Err Small → ⊥
