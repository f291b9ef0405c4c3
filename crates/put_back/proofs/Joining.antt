-- From what comes of the parts of a source and a look to what comes of the whole, for each kind of view.
use Rattle.std.proofs.Common.{◌≡◌, ℕ, true, false, List, ◌++◌, sym, subst}
use Rattle.lens.specs.Forms.{Text, Matches}
use Rattle.lens.specs.Views.{View, hide, sources, looks, Makes, Puts, p_copy, p_hide, p_then, p_swap, p_left, p_right, p_to_left, p_to_right, each}
use Rattle.rows.specs.Rows.{form_row, text_row}
use Rattle.rows.specs.Stands.{both_row}
use Rattle.rows.specs.Nodes.{Tagged}
use Rattle.rows.proofs.Tags.{builds_copy, builds_hide}
use Rattle.clear.proofs.Laying.{laid_behind}
use Rattle.clear.proofs.Lengths.{form_long, both_long}
use Rattle.walk.specs.declared.cut_text.CutText.{CutText}
use Rattle.walk.specs.Turns.{Turns, GivesSome}
use Rattle.walk.specs.Turned.{on_made}
use Rattle.walk.specs.Walks.{Ends, other_part, Takes}
use Rattle.walk.proofs.Pieces.{slice_both, exactly_is}
use Rattle.walk.proofs.Descending.{then_two, swap_two, either_two}
use Rattle.walk.proofs.Giving.{Joins}
use Rattle.walk.specs.declared.span.Span.{Span}
use Rattle.walk.specs.Spans.{before, after}
use Rattle.put_back.specs.Pairs.{Pair, in_span, WalkIn, WalkBoth, SeriesBoth}
use Rattle.put_back.proofs.Descending.{source_piece, look_piece, then_both, swap_both, source_left, source_right, look_left, look_right, each_both}

-- What comes of a part of the look and a part of the source.
abbrev pub PartPuts : CutText → CutText → View → Span → Span → (Text → Type 0) → Type 0
PartPuts source look v old new P = GivesSome (Puts v (in_span look new) (in_span source old)) P

-- The same of a view or of texts that are known to be others.
puts_view : {v v' : View} {u s : Text} {P : Text → Type 0} → v ≡ v' → GivesSome (Puts v' u s) P → GivesSome (Puts v u s) P
puts_view {u = u} {s} {P} is g = subst (λ v. GivesSome (Puts v u s) P) (sym is) g

pub puts_texts : {v : View} {u u' s s' : Text} {P : Text → Type 0} → u ≡ u' → s ≡ s' → GivesSome (Puts v u' s') P → GivesSome (Puts v u s) P
puts_texts {v} {u} {s' = s'} {P} is is' g = subst (λ s. GivesSome (Puts v u s) P) (sym is') (subst (λ u. GivesSome (Puts v u s') P) (sym is) g)

-- What holds at two pairs of parts holds where they are known to be other pairs.
pub moved : {r q r' q' : Span × Span} (T : Span × Span → Span × Span → Type 0) → r ≡ q → r' ≡ q' → T r r' → T q q'
moved {q = q} {r'} T e e' x = subst (T q) e' (subst (λ r. T r r') e x)

-- The look's side turns into the source that is made of it.
pub makes : {source look : CutText} {v : View} {u x : Text} → Pair source look → Turns look.side v u x → Makes v u x
makes {v = v} {u} {x} pair t = on_made (subst (λ s. Turns s v u x) pair.look_side t)

module _ {row : List ℕ} {source look : CutText} (pair : Pair source look) where
  pub copy_puts : {place first : ℕ} {old new : Span} {v : View} {P : Text → Type 0} → Tagged row place 10 first → P (in_span look new) →
      WalkBoth row source look place old new v → PartPuts source look v old new P
  copy_puts {old = old} {new} tag given w =
      let (f, is, l) = laid_behind builds_copy form_long tag w.in_source.laid in
      let u = subst (λ v. Matches (looks v) (in_span look new)) is (look_piece pair w.in_look).2 in
      let s = subst (λ v. Matches (sources v) (in_span source old)) is (source_piece pair w.in_source).2 in
      puts_view is (record { out = _; holds = p_copy u s; took = given })

  -- What is hidden stays as it is in the source.
  pub hide_puts : {place first : ℕ} {old new : Span} {v : View} {P : Text → Type 0} → Tagged row place 11 first → P (in_span source old) →
      WalkBoth row source look place old new v → PartPuts source look v old new P
  hide_puts {old = old} {new} tag given w =
      let (p, is, l) = laid_behind builds_hide (both_long form_row (both_row text_row text_row) form_long) tag w.in_source.laid in
      let u = exactly_is p.1.0 (subst (λ v. Matches (looks v) (in_span look new)) is (look_piece pair w.in_look).2) in
      let s = subst (λ v. Matches (sources v) (in_span source old)) is (source_piece pair w.in_source).2 in
      puts_view is (record { out = _; holds = subst (λ u. Puts (hide p.0 p.1.0 p.1.1) u (in_span source old) (in_span source old)) (sym u) (p_hide s); took = given })

  -- One after the other
  module _ {place first second m n : ℕ} {old new : Span} {v : View} {r r' : Span × Span} {P Q R : Text → Type 0} (found : second ≡ other_part source place first) (joins : Joins P Q R) where
    pub then_puts : Tagged row place 12 first → Ends source first old.at m → Ends look first new.at n →
        r ≡ (before old m, after old m) → r' ≡ (before new n, after new n) →
        ((k : View) → WalkBoth row source look first r.0 r'.0 k → PartPuts source look k r.0 r'.0 P) →
        ((l : View) → WalkBoth row source look second r.1 r'.1 l → PartPuts source look l r.1 r'.1 Q) →
        WalkBoth row source look place old new v → PartPuts source look v old new R
    then_puts tag ends ends' cut cut' one other w =
        let two = then_two found tag w.in_source in
        let (a, b) = then_both pair two tag.behind ends ends' w in
        let x = moved (λ r r'. (k : View) → WalkBoth row source look first r.0 r'.0 k → PartPuts source look k r.0 r'.0 P) cut cut' one two.one a in
        let y = moved (λ r r'. (l : View) → WalkBoth row source look second r.1 r'.1 l → PartPuts source look l r.1 r'.1 Q) cut cut' other two.other b in
        puts_view two.is (puts_texts
        (slice_both look.scanned.text.now new.at n new.end (look_piece pair a.in_look).0 (look_piece pair b.in_look).0)
        (slice_both source.scanned.text.now old.at m old.end (source_piece pair a.in_source).0 (source_piece pair b.in_source).0)
        (record { out = x.out ++ y.out; holds = p_then _ _ _ _ _ _ x.holds y.holds; took = joins _ _ x.took y.took }))

    -- The look of the second part stands first.
    pub swap_puts : Tagged row place 13 first → Ends source first old.at m → Ends look second new.at n →
        r ≡ (before old m, after old m) → r' ≡ (before new n, after new n) →
        ((k : View) → WalkBoth row source look first r.0 r'.1 k → PartPuts source look k r.0 r'.1 P) →
        ((l : View) → WalkBoth row source look second r.1 r'.0 l → PartPuts source look l r.1 r'.0 Q) →
        WalkBoth row source look place old new v → PartPuts source look v old new R
    swap_puts tag ends ends' cut cut' one other w =
        let two = swap_two found tag w.in_source in
        let (a, b) = swap_both pair two tag.behind ends ends' w in
        let x = moved (λ r r'. (k : View) → WalkBoth row source look first r.0 r'.1 k → PartPuts source look k r.0 r'.1 P) cut cut' one two.one a in
        let y = moved (λ r r'. (l : View) → WalkBoth row source look second r.1 r'.0 l → PartPuts source look l r.1 r'.0 Q) cut cut' other two.other b in
        puts_view two.is (puts_texts
        (slice_both look.scanned.text.now new.at n new.end (look_piece pair b.in_look).0 (look_piece pair a.in_look).0)
        (slice_both source.scanned.text.now old.at m old.end (source_piece pair a.in_source).0 (source_piece pair b.in_source).0)
        (record { out = x.out ++ y.out; holds = p_swap _ _ _ _ _ _ x.holds y.holds; took = joins _ _ x.took y.took }))

  -- One or the other: put back if both texts are of the same one, and else made.
  module _ {place first second : ℕ} {old new : Span} {v : View} {P : Text → Type 0} (found : second ≡ other_part source place first) (tag : Tagged row place 14 first) where
    pub left_puts : Takes look first second new.at true → Takes source first second old.at true →
        ((k : View) → WalkBoth row source look first old new k → PartPuts source look k old new P) →
        WalkBoth row source look place old new v → PartPuts source look v old new P
    left_puts new_left old_left one w =
        let two = either_two found tag w.in_source in
        let x = one two.one (record { in_source = source_left pair two tag.behind w old_left; in_look = look_left pair two tag.behind w new_left }) in
        puts_view two.is (record { out = x.out; holds = p_left x.holds; took = x.took })

    pub right_puts : Takes look first second new.at false → Takes source first second old.at false →
        ((l : View) → WalkBoth row source look second old new l → PartPuts source look l old new P) →
        WalkBoth row source look place old new v → PartPuts source look v old new P
    right_puts new_right old_right other w =
        let two = either_two found tag w.in_source in
        let y = other two.other (record { in_source = source_right pair two tag.behind w old_right; in_look = look_right pair two tag.behind w new_right }) in
        puts_view two.is (record { out = y.out; holds = p_right y.holds; took = y.took })

    pub to_left_puts : Takes look first second new.at true → Takes source first second old.at false →
        ((k : View) → WalkIn row look first new k → GivesSome (Turns look.side k (in_span look new)) P) →
        WalkBoth row source look place old new v → PartPuts source look v old new P
    to_left_puts new_left old_right one w =
        let two = either_two found tag w.in_source in
        let x = one two.one (look_left pair two tag.behind w new_left) in
        let s = (source_piece pair (source_right pair two tag.behind w old_right)).2 in
        puts_view two.is (record { out = x.out; holds = p_to_left s (makes pair x.holds); took = x.took })

    pub to_right_puts : Takes look first second new.at false → Takes source first second old.at true →
        ((l : View) → WalkIn row look second new l → GivesSome (Turns look.side l (in_span look new)) P) →
        WalkBoth row source look place old new v → PartPuts source look v old new P
    to_right_puts new_right old_left other w =
        let two = either_two found tag w.in_source in
        let y = other two.other (look_right pair two tag.behind w new_right) in
        let s = (source_piece pair (source_left pair two tag.behind w old_left)).2 in
        puts_view two.is (record { out = y.out; holds = p_to_right s (makes pair y.holds); took = y.took })

  -- Any number of parts
  pub each_puts : {place first : ℕ} {old new : Span} {v : View} {P : Text → Type 0} → Tagged row place 15 first →
      ((l : View) → SeriesBoth row source look first old new l → PartPuts source look (each l) old new P) →
      WalkBoth row source look place old new v → PartPuts source look v old new P
  each_puts tag parts w = let (l, is, s) = each_both pair tag w in puts_view is (parts l s)
