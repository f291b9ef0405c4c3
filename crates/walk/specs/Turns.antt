-- What a text of one side of a view turns into on the other side.
use Rattle.lens.specs.Forms.{Text}
use Rattle.lens.specs.Views.{View, Shows, Makes}
use Rattle.clear.specs.declared.side.Side.{Side}
use Rattle.clear.specs.declared.side.Side.TheVariants.{Source, Look}

-- A source turns into its look, and a look into the source that is made from it.
pub data Turns : Side → View → Text → Text → Type 0 where
  shown : {v : View} {s u : Text} → Shows v s u → Turns Source v s u
  made : {v : View} {u s : Text} → Makes v u s → Turns Look v u s

-- Some text of which R holds was given: P holds of it.
pub record GivesSome (R P : Text → Type 0) : Type 0 where
  pub out : Text
  pub holds : R out
  pub took : P out

-- The text that a hide gives: what it shows, or what it puts where there was no source.
abbrev pub other_text : Side → Text → Text → Text
other_text Source v d = v
other_text Look v d = d

-- The looks of swap stand in the other order than its sources: of two things that belong to its parts, the one whose part
-- stands first in the text, and the other one.
abbrev pub front : {A : Type 0} → Side → A → A → A
front Source x y = x
front Look x y = y

abbrev pub back : {A : Type 0} → Side → A → A → A
back Source x y = y
back Look x y = x
