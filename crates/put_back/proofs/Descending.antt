-- From a part of a view in a source and in a look to the parts of both, for each kind of view.
use Rattle.std.proofs.Common.{◌≡◌, ℕ, ◌+◌, ◌-◌, ◌*◌, ◌<◌, ◌≤◌, true, false, List, length, sym, refl, subst, arith}
use Rattle.lens.specs.Forms.{Matches}
use Rattle.lens.specs.Views.{View, then, swap, either, each, sources, looks}
use Rattle.rows.specs.Nodes.{Tagged}
use Rattle.clear.specs.Sides.{side_form}
use Rattle.walk.specs.declared.cut_text.CutText.{CutText}
use Rattle.walk.specs.Turns.{front, back}
use Rattle.walk.specs.Walks.{Ends, Takes, CutWalk}
use Rattle.walk.proofs.Descending.{Two, walk_piece, then_walks, swap_walks, left_walks, right_walks, each_walks}
use Rattle.walk.proofs.Giving.{same_view}
use Rattle.walk.specs.declared.span.Span.{Span}
use Rattle.walk.specs.Spans.{before, after}
use Rattle.put_back.specs.Pairs.{Pair, in_span, WalkIn, SeriesIn, WalkBoth, SeriesBoth}

-- A place behind another one has less of the row behind it.
pub falls : {n place x t : ℕ} → place < n → place < x → 3 * (n - place) ≡ t → 3 * (n - x) + 2 < t
falls inside behind is = omega arith

module _ {row : List ℕ} {source look : CutText} (pair : Pair source look) where
  -- A part of the view is a part of each text, and of the form of that side.
  pub source_piece : {place : ℕ} {part : Span} {v : View} → WalkIn row source place part v →
      (part.at ≤ part.end) × (part.end ≤ length source.scanned.text.now) × Matches (sources v) (in_span source part)
  source_piece {part = part} {v} w =
      let p = walk_piece w in
      (p.0, p.1, subst (λ s. Matches (side_form s v) (in_span source part)) pair.source_side p.2)

  pub look_piece : {place : ℕ} {part : Span} {v : View} → WalkIn row look place part v →
      (part.at ≤ part.end) × (part.end ≤ length look.scanned.text.now) × Matches (looks v) (in_span look part)
  look_piece {part = part} {v} w =
      let p = walk_piece w in
      (p.0, p.1, subst (λ s. Matches (side_form s v) (in_span look part)) pair.look_side p.2)

  -- One after the other
  pub then_both : {place first second m n : ℕ} {old new : Span} {v : View} (two : Two then row first second v) → first ≡ place + 1 →
      Ends source first old.at m → Ends look first new.at n → WalkBoth row source look place old new v →
      WalkBoth row source look first (before old m) (before new n) two.one × WalkBoth row source look second (after old m) (after new n) two.other
  then_both two behind ends ends' w =
      let (a, b) = then_walks two behind ends w.in_source in
      let (a', b') = then_walks two behind ends' w.in_look in
      (record { in_source = a; in_look = a' }, record { in_source = b; in_look = b' })

  -- The looks of swap stand in the other order.
  source_swap : {place first second i m e : ℕ} {v : View} (two : Two swap row first second v) → first ≡ place + 1 → Ends source first i m →
      CutWalk row source place i e v → CutWalk row source first i m two.one × CutWalk row source second m e two.other
  source_swap {first = first} {second} {i} {m} {e} two behind ends w =
      let order = subst (λ s. ◌≡◌ {A = ℕ × ℕ} (first, second) (front s first second, back s first second)) (sym pair.source_side) refl in
      let (a, b) = swap_walks two behind order ends w in (
        subst (λ s. CutWalk row source first i m (front s two.one two.other)) pair.source_side a,
        subst (λ s. CutWalk row source second m e (back s two.one two.other)) pair.source_side b,
      )

  look_swap : {place first second i m e : ℕ} {v : View} (two : Two swap row first second v) → first ≡ place + 1 → Ends look second i m →
      CutWalk row look place i e v → CutWalk row look first m e two.one × CutWalk row look second i m two.other
  look_swap {first = first} {second} {i} {m} {e} two behind ends w =
      let order = subst (λ s. ◌≡◌ {A = ℕ × ℕ} (second, first) (front s first second, back s first second)) (sym pair.look_side) refl in
      let (a, b) = swap_walks two behind order ends w in (
        subst (λ s. CutWalk row look first m e (back s two.one two.other)) pair.look_side b,
        subst (λ s. CutWalk row look second i m (front s two.one two.other)) pair.look_side a,
      )

  pub swap_both : {place first second m n : ℕ} {old new : Span} {v : View} (two : Two swap row first second v) → first ≡ place + 1 →
      Ends source first old.at m → Ends look second new.at n → WalkBoth row source look place old new v →
      WalkBoth row source look first (before old m) (after new n) two.one × WalkBoth row source look second (after old m) (before new n) two.other
  swap_both two behind ends ends' w =
      let (a, b) = source_swap two behind ends w.in_source in
      let (a', b') = look_swap two behind ends' w.in_look in
      (record { in_source = a; in_look = a' }, record { in_source = b; in_look = b' })

  -- One or the other
  module _ {place first second : ℕ} {old new : Span} {v : View} (two : Two either row first second v) (behind : first ≡ place + 1) (w : WalkBoth row source look place old new v) where
    pub source_left : Takes source first second old.at true → WalkIn row source first old two.one
    source_left chosen = left_walks two behind w.in_source chosen

    pub source_right : Takes source first second old.at false → WalkIn row source second old two.other
    source_right chosen = right_walks two behind w.in_source chosen

    pub look_left : Takes look first second new.at true → WalkIn row look first new two.one
    look_left chosen = left_walks two behind w.in_look chosen

    pub look_right : Takes look first second new.at false → WalkIn row look second new two.other
    look_right chosen = right_walks two behind w.in_look chosen

  -- Any number of parts
  pub each_both : {place first : ℕ} {old new : Span} {v : View} → Tagged row place 15 first → WalkBoth row source look place old new v →
      (l : View) × (v ≡ each l) × SeriesBoth row source look first old new l
  each_both {first = first} {new = new} tag w =
      let (l, is, s) = each_walks tag w.in_source in
      let (l', is', s') = each_walks tag w.in_look in
      let same : l' ≡ l = same_view s'.laid s.laid in
      (l, is, record { in_source = s; in_look = subst (λ l. SeriesIn row look first new l) same s' })
