-- Which views are clear: sources and looks can be cut into their parts in one way only.
-- Each condition is about all texts. Not here: how it is decided.
use Rattle.std.specs.Prelude.{◌≡◌, [], ◌++◌}
use Rattle.lens.specs.Forms.{Text, Form, Matches, many}
use Rattle.lens.specs.Views.{View, copy, hide, then, swap, either, each, sources, looks}

-- No text can be cut into one of f and one of g in two ways.
abbrev pub CutOnce : Form → Form → Type 0
CutOnce f g = (u v x y : Text) → Matches f u → Matches g v → Matches f x → Matches g y → u ++ v ≡ x ++ y → (u ≡ x) × (v ≡ y)

-- No text is of both forms.
abbrev pub Apart : Form → Form → Type 0
Apart f g = (u : Text) → Matches f u → Matches g u → ⊥

-- Parts of f, none of them empty, that stand one after the other are cut in one way only.
abbrev pub PartsOnce : Form → Type 0
PartsOnce f = (Matches f [] → ⊥) × CutOnce f (many f)

-- The looks of swap are cut in the order in which they stand.
abbrev pub Clear : View → Type 0
Clear (copy f) = Unit {0}
Clear (hide f v d) = Matches f d
Clear (then k l) = Clear k × Clear l × CutOnce (sources k) (sources l) × CutOnce (looks k) (looks l)
Clear (swap k l) = Clear k × Clear l × CutOnce (sources k) (sources l) × CutOnce (looks l) (looks k)
Clear (either k l) = Clear k × Clear l × Apart (sources k) (sources l) × Apart (looks k) (looks l)
Clear (each l) = Clear l × PartsOnce (sources l) × PartsOnce (looks l)
