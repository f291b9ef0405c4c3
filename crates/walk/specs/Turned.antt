-- What the whole of a cut text turns into, and that there is one such text if the view is clear.
use Rattle.std.specs.Prelude.{◌≡◌, ℕ, List, length}
use Rattle.lens.specs.Forms.{Text}
use Rattle.lens.specs.Views.{View, Shows, Makes}
use Rattle.lens.specs.Clear.{Clear}
use Rattle.lens.proofs.Works.{clear_works}
use Rattle.clear.specs.declared.side.Side.{Side}
use Rattle.clear.specs.declared.side.Side.TheVariants.{Source, Look}
use Rattle.walk.specs.Turns.{Turns, shown, made}
use Rattle.walk.specs.declared.cut_text.CutText.{CutText}
use Rattle.walk.specs.Walks.{CutWalk}

-- The whole text is a part of the view v, which the whole row says.
abbrev pub WholeWalk : List ℕ → CutText → View → Type 0
WholeWalk row cut v = CutWalk row cut 0 0 (length cut.scanned.text.now) v

-- The text is cut by a clear view.
pub record CutWhole (row : List ℕ) (cut : CutText) : Type 0 where
  pub view : View
  pub clear : Clear view
  pub walk : WholeWalk row cut view

-- The text turns into u.
pub record TurnedWhole (row : List ℕ) (cut : CutText) (u : Text) : Type 0 where
  pub turns : (v : View) → WholeWalk row cut v → Turns cut.side v cut.scanned.text.now u

pub on_shown : {v : View} {s u : Text} → Turns Source v s u → Shows v s u
on_shown (shown x) = x

pub on_made : {v : View} {u s : Text} → Turns Look v u s → Makes v u s
on_made (made x) = x

pub turns_one : (side : Side) {v : View} {s u w : Text} → Clear v → Turns side v s u → Turns side v s w → u ≡ w
turns_one Source {v} {s} {u} {w} c a b = (clear_works v c).shows_one s u w (on_shown a) (on_shown b)
turns_one Look {v} {s} {u} {w} c a b = (clear_works v c).makes_one s u w (on_made a) (on_made b)

pub turned_one : {row : List ℕ} {cut : CutText} {u w : Text} → CutWhole row cut → TurnedWhole row cut u → TurnedWhole row cut w → u ≡ w
turned_one {cut = cut} c a b = turns_one cut.side c.clear (a.turns c.view c.walk) (b.turns c.view c.walk)
