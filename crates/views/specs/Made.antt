-- What `show` and `make` promise.
use Rattle.std.specs.Prelude.{◌≡◌, ℕ, ◌<◌, ◌↔◌, List, Result, Ok, Err, length, take, drop}
use Rattle.lens.specs.Forms.{Text, Matches}
use Rattle.lens.specs.Views.{View, sources, looks, Shows, Makes}
use Rattle.lens.specs.Clear.{Clear}
use Rattle.rows.specs.Rows.{Encodes}
use Rattle.clear.specs.declared.side.Side.{Side}
use Rattle.clear.specs.declared.side.Side.TheVariants.{Source, Look}
use Rattle.clear.specs.Sides.{side_form}
use Rattle.walk.specs.Turns.{Turns}
use Rattle.views.specs.Room.{room}
use Rattle.views.specs.declared.made.Refused.{Refused}
use Rattle.views.specs.declared.made.Refused.TheVariants.{Muddy, NoSuch, NoSource, NoLook, Full, Small}

-- What the calls on texts answer.
abbrev pub Made : Type 0
Made = Result ℕ Refused

-- The first n bytes of o' are the text t, and the others are as in o.
pub record Written (t : Text) (o o' : List ℕ) (n : ℕ) : Type 0 where
  pub long : n ≡ length t
  pub front : take n o' ≡ t
  pub rest : drop n o' ≡ drop n o

-- What each answer says of the view s, the source a, and the bytes lent for the look before and after.
abbrev pub ShownSays : List ℕ → Text → List ℕ → List ℕ → Made → Type 0
ShownSays s a o o' (Ok n) = (v : View) × (u : Text) × Encodes s v × Clear v × Shows v a u × Written u o o' n
ShownSays s a o o' (Err Muddy) = (v : View) × Encodes s v × (Clear v → ⊥) × (o' ≡ o)
ShownSays s a o o' (Err NoSuch) = ((v : View) → Encodes s v → ⊥) × (o' ≡ o)
ShownSays s a o o' (Err NoSource) = (v : View) × Encodes s v × Clear v × (Matches (sources v) a → ⊥) × (o' ≡ o)
ShownSays s a o o' (Err NoLook) = ⊥
ShownSays s a o o' (Err Full) = (v : View) × (u : Text) × Encodes s v × Clear v × Shows v a u × (length o < length u) × (o' ≡ o)
ShownSays s a o o' (Err Small) = o' ≡ o

-- The same of the look b, and the bytes lent for the source that is made.
abbrev pub MadeSays : List ℕ → Text → List ℕ → List ℕ → Made → Type 0
MadeSays s b o o' (Ok n) = (v : View) × (x : Text) × Encodes s v × Clear v × Makes v b x × Written x o o' n
MadeSays s b o o' (Err Muddy) = (v : View) × Encodes s v × (Clear v → ⊥) × (o' ≡ o)
MadeSays s b o o' (Err NoSuch) = ((v : View) → Encodes s v → ⊥) × (o' ≡ o)
MadeSays s b o o' (Err NoSource) = ⊥
MadeSays s b o o' (Err NoLook) = (v : View) × Encodes s v × Clear v × (Matches (looks v) b → ⊥) × (o' ≡ o)
MadeSays s b o o' (Err Full) = (v : View) × (x : Text) × Encodes s v × Clear v × Makes v b x × (length o < length x) × (o' ≡ o)
MadeSays s b o o' (Err Small) = o' ≡ o

-- The same of a text of either side, as the two calls share their code.
abbrev pub TurnedSays : Side → List ℕ → Text → List ℕ → List ℕ → Made → Type 0
TurnedSays side s a o o' (Ok n) = (v : View) × (u : Text) × Encodes s v × Clear v × Turns side v a u × Written u o o' n
TurnedSays side s a o o' (Err Muddy) = (v : View) × Encodes s v × (Clear v → ⊥) × (o' ≡ o)
TurnedSays side s a o o' (Err NoSuch) = ((v : View) → Encodes s v → ⊥) × (o' ≡ o)
TurnedSays side s a o o' (Err NoSource) = (side ≡ Source) × ((v : View) × Encodes s v × Clear v × (Matches (side_form side v) a → ⊥) × (o' ≡ o))
TurnedSays side s a o o' (Err NoLook) = (side ≡ Look) × ((v : View) × Encodes s v × Clear v × (Matches (side_form side v) a → ⊥) × (o' ≡ o))
TurnedSays side s a o o' (Err Full) = (v : View) × (u : Text) × Encodes s v × Clear v × Turns side v a u × (length o < length u) × (o' ≡ o)
TurnedSays side s a o o' (Err Small) = o' ≡ o

pub record TurnedPost (side : Side) (s : List ℕ) (a : Text) (o o' : List ℕ) (w : ℕ) (r : Made) : Type 0 where
  pub says : TurnedSays side s a o o' r
  pub small : (w < room s (length a)) ↔ (r ≡ Err Small)

-- The same where the view is known to be clear and the words to be enough.
pub record ClearedPost (side : Side) (s : List ℕ) (a : Text) (o o' : List ℕ) (r : Made) : Type 0 where
  pub says : TurnedSays side s a o o' r
  pub large : r ≡ Err Small → ⊥

-- The answer for a text that isn't of the form of its side.
abbrev pub missing : Side → Refused
missing Source = NoSource
missing Look = NoLook

pub record ShownPost (s : List ℕ) (a : Text) (o o' : List ℕ) (w : ℕ) (r : Made) : Type 0 where
  pub says : ShownSays s a o o' r
  pub small : (w < room s (length a)) ↔ (r ≡ Err Small)

pub record MadePost (s : List ℕ) (b : Text) (o o' : List ℕ) (w : ℕ) (r : Made) : Type 0 where
  pub says : MadeSays s b o o' r
  pub small : (w < room s (length b)) ↔ (r ≡ Err Small)
