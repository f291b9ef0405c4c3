-- Where a walk over a source and a look goes on: at the parts of a view, which stand behind it in the row.
use Rattle.std.proofs.Common.{◌≡◌, ℕ, ◌<◌, true, false, List, length, sym, arith}
use Rattle.lens.specs.Views.{View}
use Rattle.rows.specs.Nodes.{Tagged}
use Rattle.walk.specs.declared.cut_text.CutText.{CutText}
use Rattle.walk.specs.Walks.{Ends, other_part, Takes, CutWalks}
use Rattle.walk.proofs.Descending.{then_two, swap_two, either_two, first_walks}
use Rattle.walk.proofs.Going.{two_behind}
use Rattle.walk.specs.declared.span.Span.{Span}
use Rattle.walk.specs.Spans.{before, after}
use Rattle.put_back.specs.Pairs.{Pair, WalkBoth, WalksBoth, SeriesBoth, SomeSeriesBoth, NextBoth, SomeNext}
use Rattle.put_back.proofs.Descending.{then_both, swap_both, source_left, source_right, look_left, look_right, each_both}
use Rattle.put_back.proofs.Joining.{moved}

module _ {row : List ℕ} {source look : CutText} {place : ℕ} {old new : Span} where
  pub walks_inside : WalksBoth row source look place old new → place < length row
  walks_inside w = let laid = w.both.in_source.laid in omega (arith, laid.less, laid.within)

module _ {row : List ℕ} {source look : CutText} (pair : Pair source look) {place first second : ℕ} {old new : Span} (found : second ≡ other_part source place first) (w : WalksBoth row source look place old new) where
  -- One after the other: the first parts of both texts, and the second ones
  module _ {m n : ℕ} {r r' : Span × Span} (cut : r ≡ (before old m, after old m)) (cut' : r' ≡ (before new n, after new n)) (ends : Ends source first old.at m) where
    module _ (tag : Tagged row place 12 first) (ends' : Ends look first new.at n) where
      pub go_first : WalksBoth row source look first r.0 r'.0 × (place < first)
      go_first =
          let two = then_two found tag w.both.in_source in
          let here : WalksBoth row source look first (before old m) (before new n) = record { view = two.one; both = (then_both pair two tag.behind ends ends' w.both).0 } in
          (moved (λ r r'. WalksBoth row source look first r.0 r'.0) (sym cut) (sym cut') here, (two_behind two tag.behind).0)

      pub go_second : WalksBoth row source look second r.1 r'.1 × (place < second)
      go_second =
          let two = then_two found tag w.both.in_source in
          let here : WalksBoth row source look second (after old m) (after new n) = record { view = two.other; both = (then_both pair two tag.behind ends ends' w.both).1 } in
          (moved (λ r r'. WalksBoth row source look second r.1 r'.1) (sym cut) (sym cut') here, (two_behind two tag.behind).1)

    -- The look of the second part stands first.
    module _ (tag : Tagged row place 13 first) (ends' : Ends look second new.at n) where
      pub go_swapped_first : WalksBoth row source look first r.0 r'.1 × (place < first)
      go_swapped_first =
          let two = swap_two found tag w.both.in_source in
          let here : WalksBoth row source look first (before old m) (after new n) = record { view = two.one; both = (swap_both pair two tag.behind ends ends' w.both).0 } in
          (moved (λ r r'. WalksBoth row source look first r.0 r'.1) (sym cut) (sym cut') here, (two_behind two tag.behind).0)

      pub go_swapped_second : WalksBoth row source look second r.1 r'.0 × (place < second)
      go_swapped_second =
          let two = swap_two found tag w.both.in_source in
          let here : WalksBoth row source look second (after old m) (before new n) = record { view = two.other; both = (swap_both pair two tag.behind ends ends' w.both).1 } in
          (moved (λ r r'. WalksBoth row source look second r.1 r'.0) (sym cut) (sym cut') here, (two_behind two tag.behind).1)

  -- One or the other
  module _ (tag : Tagged row place 14 first) where
    pub go_left : Takes look first second new.at true → Takes source first second old.at true →
        WalksBoth row source look first old new × (place < first)
    go_left new_left old_left =
        let two = either_two found tag w.both.in_source in
        let both : WalkBoth row source look first old new two.one = record { in_source = source_left pair two tag.behind w.both old_left; in_look = look_left pair two tag.behind w.both new_left } in
        (record { view = two.one; both = both }, (two_behind two tag.behind).0)

    pub go_right : Takes look first second new.at false → Takes source first second old.at false →
        WalksBoth row source look second old new × (place < second)
    go_right new_right old_right =
        let two = either_two found tag w.both.in_source in
        let both : WalkBoth row source look second old new two.other = record { in_source = source_right pair two tag.behind w.both old_right; in_look = look_right pair two tag.behind w.both new_right } in
        (record { view = two.other; both = both }, (two_behind two tag.behind).1)

    pub go_to_left : Takes look first second new.at true → CutWalks row look first new.at new.end
    go_to_left new_left =
        let two = either_two found tag w.both.in_source in
        record { view = two.one; walk = look_left pair two tag.behind w.both new_left }

    pub go_to_right : Takes look first second new.at false → CutWalks row look second new.at new.end
    go_to_right new_right =
        let two = either_two found tag w.both.in_source in
        record { view = two.other; walk = look_right pair two tag.behind w.both new_right }

-- Any number of parts
module _ {row : List ℕ} {source look : CutText} (pair : Pair source look) {place : ℕ} where
  pub go_parts : {first : ℕ} {old new : Span} → Tagged row place 15 first → WalksBoth row source look place old new → SomeSeriesBoth row source look first old new
  go_parts tag w = let (l, is, s) = each_both pair tag w.both in record { view = l; both = s }

  pub go_next : {m : ℕ} {old new : Span} {l : View} → Ends look place new.at m → new.at < new.end → SeriesBoth row source look place old new l →
      SomeNext row source look place old (before new m)
  go_next ends more s =
      record { view = _; both = record { in_source = s.in_source; in_look = (first_walks ends more s.in_look).0 } }

  -- The next part of the source, and the part of the look
  pub go_part : {m : ℕ} {old part : Span} {l : View} → Ends source place old.at m → old.at < old.end → NextBoth row source look place old part l →
      WalksBoth row source look place (before old m) part
  go_part ends more n =
      record { view = _; both = record { in_source = (first_walks ends more n.in_source).0; in_look = n.in_look } }
