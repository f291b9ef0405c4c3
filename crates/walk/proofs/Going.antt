-- Where a walk goes on: at the parts of a view, which stand behind it in the row.
use Rattle.std.proofs.Common.{◌≡◌, ℕ, ◌+◌, ◌-◌, ◌*◌, ◌<◌, true, false, List, [], ◌∷◌, ◌++◌, length, sym, ap, ◌∙◌, subst, append-nil, zero-le, le_refl, arith}
use Rattle.std.proofs.lemmas.List.{drop_all}
use Rattle.lens.specs.Forms.{Matches}
use Rattle.lens.specs.Views.{View}
use Rattle.rows.specs.Rows.{view_row, Encodes}
use Rattle.rows.specs.Nodes.{Tagged}
use Rattle.clear.specs.declared.side.Side.{Side}
use Rattle.clear.specs.declared.side.Side.TheVariants.{Source, Look}
use Rattle.clear.specs.Sides.{side_form}
use Rattle.clear.proofs.Lengths.{view_long}
use Rattle.trees.specs.Tree.{Grows, Fits, fits_none, fits_more, At, at_root}
use Rattle.grow.specs.Planted.{Planted}
use Rattle.walk.specs.Turns.{front, back}
use Rattle.walk.specs.declared.cut_text.CutText.{CutText}
use Rattle.walk.specs.Walks.{CutPart, Ends, other_part, CutWalk, CutWalks, CutSeries, SomeCutSeries, Takes}
use Rattle.walk.proofs.Descending.{planted_grows, Two, then_two, swap_two, either_two, then_walks, swap_walks, left_walks, right_walks, each_walks, first_walks}

-- A place behind another one has less of the row behind it.
pub falls : {n place x t : ℕ} → place < n → place < x → 2 * (n - place) ≡ t → 2 * (n - x) + 1 < t
falls inside behind is = omega arith

-- The parts of a view stand behind it.
pub two_behind : {join : View → View → View} {row : List ℕ} {place first second : ℕ} {v : View} → Two join row first second v → first ≡ place + 1 →
    (place < first) × (place < second)
two_behind two behind = let one = two.laid_one in (omega arith, omega (arith, one.less))

both_behind : (side : Side) {place first second : ℕ} → (place < first) × (place < second) → (place < front side first second) × (place < back side first second)
both_behind Source (a, b) = (a, b)
both_behind Look (a, b) = (b, a)

module _ {row : List ℕ} {cut : CutText} where
  pub walks_inside : {place i e : ℕ} → CutWalks row cut place i e → place < length row
  walks_inside w = omega (arith, w.walk.laid.less, w.walk.laid.within)

module _ {row : List ℕ} {cut : CutText} {place first second i e : ℕ} (found : second ≡ other_part cut place first) where
  -- The second part of two stands behind the first one, and that behind its node.
  module _ (tag : Tagged row place 12 first) (w : CutWalks row cut place i e) where
    pub go_first : {m : ℕ} → Ends cut first i m → CutWalks row cut first i m × (place < first)
    go_first ends =
        let two = then_two found tag w.walk in
        (record { view = _; walk = (then_walks two tag.behind ends w.walk).0 }, (two_behind two tag.behind).0)

    pub go_second : {m : ℕ} → Ends cut first i m → CutWalks row cut second m e × (place < second)
    go_second ends =
        let two = then_two found tag w.walk in
        (record { view = _; walk = (then_walks two tag.behind ends w.walk).1 }, (two_behind two tag.behind).1)

  module _ (tag : Tagged row place 13 first) (w : CutWalks row cut place i e) {r : ℕ × ℕ} (order : r ≡ (front cut.side first second, back cut.side first second)) where
    pub go_front : {m : ℕ} → Ends cut r.0 i m → CutWalks row cut r.0 i m × (place < r.0)
    go_front ends =
        let two = swap_two found tag w.walk in
        (record { view = _; walk = (swap_walks two tag.behind order ends w.walk).0 }, rw order (both_behind cut.side (two_behind two tag.behind)).0)

    pub go_back : {m : ℕ} → Ends cut r.0 i m → CutWalks row cut r.1 m e × (place < r.1)
    go_back ends =
        let two = swap_two found tag w.walk in
        (record { view = _; walk = (swap_walks two tag.behind order ends w.walk).1 }, rw order (both_behind cut.side (two_behind two tag.behind)).1)

  module _ (tag : Tagged row place 14 first) (w : CutWalks row cut place i e) where
    pub go_left : Takes cut first second i true → CutWalks row cut first i e × (place < first)
    go_left chosen =
        let two = either_two found tag w.walk in
        (record { view = _; walk = left_walks two tag.behind w.walk chosen }, (two_behind two tag.behind).0)

    pub go_right : Takes cut first second i false → CutWalks row cut second i e × (place < second)
    go_right chosen =
        let two = either_two found tag w.walk in
        (record { view = _; walk = right_walks two tag.behind w.walk chosen }, (two_behind two tag.behind).1)

module _ {row : List ℕ} {cut : CutText} where
  pub go_parts : {place first i e : ℕ} → Tagged row place 15 first → CutWalks row cut place i e → SomeCutSeries row cut first i e
  go_parts tag w = let (l, is, s) = each_walks tag w.walk in record { view = l; parts = s }

  pub go_part : {place i m e : ℕ} {l : View} → Ends cut place i m → i < e → CutSeries row cut place i e l → CutWalks row cut place i m
  go_part ends more s = record { view = _; walk = (first_walks ends more s).0 }

-- The whole text, at the root of the tree.
pub go_whole : {row : List ℕ} {cut : CutText} {v : View} → Encodes row v → cut.scanned.tree.root ≡ 0 → Planted cut.scanned.tree.words.now cut.side 0 v →
    Matches (side_form cut.side v) cut.scanned.text.now → CutPart cut cut.scanned.tree.root 0 (length cut.scanned.text.now) →
    CutWalk row cut 0 0 (length cut.scanned.text.now) v
go_whole {row} {cut} {v} encodes root planted matches part =
    let text = cut.scanned.text.now in
    let grows = planted_grows planted in
    record {
      behind = length row;
      laid = record {
        sound = encodes.fine;
        less = omega (arith, view_long v, ap length encodes.row);
        within = le_refl (length row);
        laid = sym (ap (λ r. view_row v ++ r) (drop_all (length row) row (le_refl (length row))) ∙ append-nil (view_row v) ∙ encodes.row);
      };
      planted = planted;
      holds = record {
        stack = [];
        stands = subst (λ q. At cut.scanned.tree.words.now cut.scanned.tree.root q (side_form cut.side v) []) root (at_root (subst (λ q. Grows cut.scanned.tree.words.now q (side_form cut.side v)) (sym root) grows));
        fits = subst (Fits (side_form cut.side v ∷ [])) (append-nil text) (fits_more text [] matches fits_none);
        within = zero-le;
      };
      part = subst (λ q. CutPart cut q 0 (length text)) root part;
    }
