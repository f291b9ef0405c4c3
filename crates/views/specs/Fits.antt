-- What `viable_prefix` promises.
use Rattle.std.specs.Prelude.{◌≡◌, ℕ, ◌<◌, ◌↔◌, List, Result, Ok, Err, length}
use Rattle.lens.specs.Forms.{Text, Matches}
use Rattle.lens.specs.Views.{View}
use Rattle.rows.specs.Rows.{Encodes}
use Rattle.clear.specs.declared.side.Side.{Side}
use Rattle.clear.specs.Sides.{side_form}
use Rattle.viable.specs.Viable.{BreaksAt}
use Rattle.views.specs.declared.fitting.Unfit.{Unfit}
use Rattle.views.specs.declared.fitting.Unfit.TheVariants.{Breaks, NoSuch, Small}
use Rattle.views.specs.Room.{room}

-- What each answer says of the view s and a text u of the side.
abbrev pub FitSays : Side → List ℕ → Text → Result (Unit {0}) Unfit → Type 0
FitSays side s u (Ok tt) = (v : View) × Encodes s v × Matches (side_form side v) u
FitSays side s u (Err (Breaks b)) = (v : View) × Encodes s v × BreaksAt (side_form side v) u b
FitSays side s u (Err NoSuch) = (v : View) → Encodes s v → ⊥
FitSays side s u (Err Small) = Unit {0}

pub record FitPost (side : Side) (s : List ℕ) (u : Text) (w : ℕ) (r : Result (Unit {0}) Unfit) : Type 0 where
  pub says : FitSays side s u r
  pub small : (w < room s (length u)) ↔ (r ≡ Err Small)
