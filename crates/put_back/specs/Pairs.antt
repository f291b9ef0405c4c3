-- Where a walk over a source and a look together stands: at the same view of a row, and at a part of each text.
use Rattle.std.specs.Prelude.{◌≡◌, ℕ, ◌≤◌, List, [], ◌++◌}
use Rattle.lens.specs.Forms.{Text}
use Rattle.lens.specs.Views.{View, each, Puts}
use Rattle.clear.specs.declared.side.Side.TheVariants.{Source, Look}
use Rattle.walk.specs.declared.cut_text.CutText.{CutText}
use Rattle.walk.specs.Spans.{slice}
use Rattle.walk.specs.Walks.{CutWalk, CutSeries}
use Rattle.walk.specs.declared.span.Span.{Span}

-- A source and a look.
pub record Pair (source look : CutText) : Type 0 where
  pub source_side : source.side ≡ Source
  pub look_side : look.side ≡ Look

-- A part of a cut text.
abbrev pub in_span : CutText → Span → Text
in_span cut part = slice cut.scanned.text.now part.at part.end

abbrev pub WalkIn : List ℕ → CutText → ℕ → Span → View → Type 0
WalkIn row cut place part = CutWalk row cut place part.at part.end

abbrev pub SeriesIn : List ℕ → CutText → ℕ → Span → View → Type 0
SeriesIn row cut place part = CutSeries row cut place part.at part.end

-- The view v stands at `place`, and a part of it in each text.
pub record WalkBoth (row : List ℕ) (source look : CutText) (place : ℕ) (old new : Span) (v : View) : Type 0 where
  pub in_source : WalkIn row source place old v
  pub in_look : WalkIn row look place new v

-- Some view does.
pub record WalksBoth (row : List ℕ) (source look : CutText) (place : ℕ) (old new : Span) : Type 0 where
  pub view : View
  pub both : WalkBoth row source look place old new view

-- The view l stands at `place`, and any number of parts of it in each text.
pub record SeriesBoth (row : List ℕ) (source look : CutText) (place : ℕ) (old new : Span) (l : View) : Type 0 where
  pub in_source : SeriesIn row source place old l
  pub in_look : SeriesIn row look place new l

pub record SomeSeriesBoth (row : List ℕ) (source look : CutText) (place : ℕ) (old new : Span) : Type 0 where
  pub view : View
  pub both : SeriesBoth row source look place old new view

-- The same where the look is at one part, and the source has any number of parts left.
pub record NextBoth (row : List ℕ) (source look : CutText) (place : ℕ) (rest part : Span) (l : View) : Type 0 where
  pub in_source : SeriesIn row source place rest l
  pub in_look : WalkIn row look place part l

pub record SomeNext (row : List ℕ) (source look : CutText) (place : ℕ) (rest part : Span) : Type 0 where
  pub view : View
  pub both : NextBoth row source look place rest part view

-- The parts u of a look were put into the parts s of a source, and P holds of what came of them: whatever the other parts
-- come to comes behind it. If the source is used up, nothing is left of it.
pub record Putting (l : View) (u s : Text) (Used : Type 0) (P : Text → Type 0) : Type 0 where
  pub out : Text
  pub took : P out
  pub goes : (v t y : Text) → (Used → t ≡ []) → Puts (each l) v t y → Puts (each l) (u ++ v) (s ++ t) (out ++ y)

-- One part of the look was put back, and the source goes on at r.
pub record PutNext (row : List ℕ) (source look : CutText) (place : ℕ) (rest part : Span) (l : View) (P : Text → Type 0) (r : ℕ) : Type 0 where
  pub left : CutSeries row source place r rest.end l
  pub onward : rest.at ≤ r
  pub used : rest.end ≤ rest.at → r ≡ rest.at
  pub puts : Putting l (in_span look part) (slice source.scanned.text.now rest.at r) (rest.end ≤ r) P
