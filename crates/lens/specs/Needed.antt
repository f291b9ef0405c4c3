-- The conditions of Clear are needed: with one of them left out or changed, a view passes that does not work.
-- Not here: such views (proofs/Needed).
use Rattle.std.specs.Prelude.{◌↔◌}
use Rattle.lens.specs.Forms.{Text, Form, Matches}
use Rattle.lens.specs.Views.{View, copy, hide, then, swap, either, each, sources, looks}
use Rattle.lens.specs.Clear.{CutOnce, Apart, PartsOnce, Clear}
use Rattle.lens.specs.Laws.{Works}

-- Clear, with other conditions in three places: on the form and the default of hide; on the looks of swap's
-- first and second view; on the sources and the looks of each's parts.
abbrev pub ClearBy : (Form → Text → Type 0) → (Form → Form → Type 0) → (Form → Form → Type 0) → View → Type 0
ClearBy default order parts (copy f) = Unit {0}
ClearBy default order parts (hide f v d) = default f d
ClearBy default order parts (then k l) = ClearBy default order parts k × ClearBy default order parts l × CutOnce (sources k) (sources l) × CutOnce (looks k) (looks l)
ClearBy default order parts (swap k l) = ClearBy default order parts k × ClearBy default order parts l × CutOnce (sources k) (sources l) × order (looks k) (looks l)
ClearBy default order parts (either k l) = ClearBy default order parts k × ClearBy default order parts l × Apart (sources k) (sources l) × Apart (looks k) (looks l)
ClearBy default order parts (each l) = ClearBy default order parts l × PartsOnce (sources l) × parts (sources l) (looks l)

-- With the conditions of Clear it is Clear.
abbrev pub Careful : View → Type 0
Careful = ClearBy Matches (λ k l. CutOnce l k) (λ s u. PartsOnce u)

-- The default need not be a source.
abbrev pub AnyDefault : View → Type 0
AnyDefault = ClearBy (λ f d. Unit {0}) (λ k l. CutOnce l k) (λ s u. PartsOnce u)

-- The looks of swap are cut in the order of the sources.
abbrev pub SourceOrder : View → Type 0
SourceOrder = ClearBy Matches CutOnce (λ s u. PartsOnce u)

-- Only the sources of each are cut in one way.
abbrev pub SourceParts : View → Type 0
SourceParts = ClearBy Matches (λ k l. CutOnce l k) (λ s u. PartsOnce s)

-- Some view meets the condition and does not work.
abbrev pub TooWeak : (View → Type 0) → Type 0
TooWeak Condition = (l : View) × Condition l × (Works l → ⊥)

pub record Needed : Type 0 where
  pub careful : (l : View) → Clear l ↔ Careful l
  pub any_default : TooWeak AnyDefault
  pub source_order : TooWeak SourceOrder
  pub source_parts : TooWeak SourceParts
