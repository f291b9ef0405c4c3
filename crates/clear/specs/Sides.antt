-- The two sides of a view, and the conditions of a clear view that are about one side.
use Rattle.lens.specs.Forms.{Form, Matches}
use Rattle.lens.specs.Views.{View, copy, hide, then, swap, either, each, sources, looks}
use Rattle.lens.specs.Clear.{CutOnce, Apart, PartsOnce}
use Rattle.clear.specs.declared.side.Side.{Side}
use Rattle.clear.specs.declared.side.Side.TheVariants.{Source, Look}

-- The form of the texts of a side.
abbrev pub side_form : Side → View → Form
side_form Source = sources
side_form Look = looks

abbrev pub ClearOn : Side → View → Type 0
ClearOn side (copy f) = Unit {0}
ClearOn Source (hide f v d) = Matches f d
ClearOn Look (hide f v d) = Unit {0}
ClearOn side (then k l) = ClearOn side k × ClearOn side l × CutOnce (side_form side k) (side_form side l)
ClearOn Source (swap k l) = ClearOn Source k × ClearOn Source l × CutOnce (sources k) (sources l)
ClearOn Look (swap k l) = ClearOn Look k × ClearOn Look l × CutOnce (looks l) (looks k)
ClearOn side (either k l) = ClearOn side k × ClearOn side l × Apart (side_form side k) (side_form side l)
ClearOn side (each l) = ClearOn side l × PartsOnce (side_form side l)
