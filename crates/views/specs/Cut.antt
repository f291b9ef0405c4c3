-- A text that is cut by a clear view.
use Rattle.std.specs.Prelude.{◌≡◌, ℕ, List, Some, None, Option}
use Rattle.lens.specs.Forms.{Text, Matches}
use Rattle.lens.specs.Views.{View}
use Rattle.lens.specs.Clear.{Clear}
use Rattle.rows.specs.Rows.{Encodes}
use Rattle.clear.specs.declared.side.Side.{Side}
use Rattle.clear.specs.Sides.{side_form}
use Rattle.walk.specs.declared.cut_text.CutText.{CutText}
use Rattle.walk.specs.Turned.{WholeWalk}

-- The row says a clear view.
pub record ClearRow (s : List ℕ) : Type 0 where
  pub view : View
  pub encodes : Encodes s view
  pub clear : Clear view

-- The text a of a side is cut by the view that the row s says.
pub record CutBy (side : Side) (s : List ℕ) (a : Text) (cut : CutText) : Type 0 where
  pub side_is : cut.side ≡ side
  pub text_is : cut.scanned.text.now ≡ a
  pub walk : (v : View) → Encodes s v → WholeWalk s cut v

-- It is cut, or it isn't of the form of that side.
abbrev pub Cuts : Side → List ℕ → Text → Option CutText → Type 0
Cuts side s a (Some cut) = CutBy side s a cut
Cuts side s a None = (v : View) → Encodes s v → Matches (side_form side v) a → ⊥
