-- From what a walk gives at the parts of a view to what it gives at the view, for each kind of view; and where it goes on.
use Rattle.std.proofs.Common.{◌≡◌, ℕ, ◌-◌, ◌≤◌, true, false, List, [], ◌++◌, length, sym, ap, ◌∙◌, subst, arith}
use Rattle.std.proofs.lemmas.List.{take_all}
use Rattle.lens.specs.Forms.{Text, Matches}
use Rattle.lens.specs.Views.{View, each}
use Rattle.rows.specs.Rows.{form_row, text_row, view_row, ViewFine}
use Rattle.rows.specs.Stands.{both_row}
use Rattle.rows.specs.Nodes.{Tagged}
use Rattle.rows.proofs.Tags.{Hidden, hidden_row, HiddenFine, builds_copy, builds_hide}
use Rattle.rows.proofs.Unique.{splits_view}
use Rattle.clear.specs.declared.side.Side.{Side}
use Rattle.clear.specs.Sides.{side_form}
use Rattle.clear.specs.Filled.{Laid}
use Rattle.clear.proofs.Laying.{laid_behind}
use Rattle.clear.proofs.Lengths.{form_long, both_long}
use Rattle.marks.proofs.Cuts.{cut_ordered}
use Rattle.walk.specs.Spans.{slice}
use Rattle.walk.specs.Turns.{Turns, GivesSome, other_text, front, back}
use Rattle.walk.specs.declared.cut_text.CutText.{CutText}
use Rattle.walk.specs.Walks.{Ends, other_part, CutWalk, CutSeries, Takes}
use Rattle.walk.specs.Turned.{WholeWalk, CutWhole, TurnedWhole}
use Rattle.walk.proofs.Pieces.{slice_both, slice_none, turns_copy, turns_hide, turns_then, turns_swap, turns_left, turns_right, turns_none, turns_more}
use Rattle.walk.proofs.Descending.{walk_piece, then_two, swap_two, either_two, then_walks, swap_walks, left_walks, right_walks, each_walks}

-- The same of a view or a text that is known to be another one.
gives_view : {side : Side} {v v' : View} {s : Text} {P : Text → Type 0} → v ≡ v' → GivesSome (Turns side v' s) P → GivesSome (Turns side v s) P
gives_view {side} {s = s} {P} is g = subst (λ v. GivesSome (Turns side v s) P) (sym is) g

gives_text : {side : Side} {v : View} {s s' : Text} {P : Text → Type 0} → s ≡ s' → GivesSome (Turns side v s') P → GivesSome (Turns side v s) P
gives_text {side} {v} {P = P} is g = subst (λ s. GivesSome (Turns side v s) P) (sym is) g

-- P holds of a text and Q of the one behind it, so R holds of both.
abbrev pub Joins : (P Q R : Text → Type 0) → Type 0
Joins P Q R = (u w : Text) → P u → Q w → R (u ++ w)

-- From i to e the text is turned into one of which P holds.
abbrev PartGives : CutText → View → ℕ → ℕ → (Text → Type 0) → Type 0
PartGives cut v i e P = GivesSome (Turns cut.side v (slice cut.scanned.text.now i e)) P

module _ {row : List ℕ} {cut : CutText} where
  pub copy_gives : {place first i e : ℕ} {v : View} {P : Text → Type 0} → Tagged row place 10 first → P (slice cut.scanned.text.now i e) →
      CutWalk row cut place i e v → PartGives cut v i e P
  copy_gives {i = i} {e} tag given w =
      let (f, is, l) = laid_behind builds_copy form_long tag w.laid in
      let matches = subst (λ v. Matches (side_form cut.side v) (slice cut.scanned.text.now i e)) is (walk_piece w).2 in
      gives_view is (record { out = _; holds = turns_copy cut.side matches; took = given })

  pub hide_gives : {place first i e : ℕ} {v : View} {P : Text → Type 0} → Tagged row place 11 first →
      ((p : Hidden) (b : ℕ) → Laid hidden_row HiddenFine row first b p → P (other_text cut.side p.1.0 p.1.1)) →
      CutWalk row cut place i e v → PartGives cut v i e P
  hide_gives {i = i} {e} tag given w =
      let (p, is, l) = laid_behind builds_hide (both_long form_row (both_row text_row text_row) form_long) tag w.laid in
      let matches = subst (λ v. Matches (side_form cut.side v) (slice cut.scanned.text.now i e)) is (walk_piece w).2 in
      gives_view is (record { out = _; holds = turns_hide cut.side matches; took = given p _ l })

  -- One after the other
  pub then_gives : {place first second i m e : ℕ} {v : View} {P Q R : Text → Type 0} → Tagged row place 12 first →
      second ≡ other_part cut place first → Ends cut first i m →
      ((k : View) → CutWalk row cut first i m k → PartGives cut k i m P) → ((l : View) → CutWalk row cut second m e l → PartGives cut l m e Q) →
      Joins P Q R → CutWalk row cut place i e v → PartGives cut v i e R
  then_gives {i = i} {m} {e} tag found ends one two joins w =
      let both = then_two found tag w in
      let (a, b) = then_walks both tag.behind ends w in
      let x = one both.one a in
      let y = two both.other b in
      gives_view both.is (gives_text (slice_both cut.scanned.text.now i m e (walk_piece a).0 (walk_piece b).0)
      (record { out = x.out ++ y.out; holds = turns_then x.holds y.holds; took = joins _ _ x.took y.took }))

  -- In the other order: the part that stands second in the text gives first.
  pub swap_gives : {place first second i m e : ℕ} {v : View} {r : ℕ × ℕ} {P Q R : Text → Type 0} → Tagged row place 13 first →
      second ≡ other_part cut place first → r ≡ (front cut.side first second, back cut.side first second) → Ends cut r.0 i m →
      ((l : View) → CutWalk row cut r.1 m e l → PartGives cut l m e P) → ((k : View) → CutWalk row cut r.0 i m k → PartGives cut k i m Q) →
      Joins P Q R → CutWalk row cut place i e v → PartGives cut v i e R
  swap_gives {i = i} {m} {e} tag found order ends two one joins w =
      let both = swap_two found tag w in
      let (a, b) = swap_walks both tag.behind order ends w in
      let x = one (front cut.side both.one both.other) a in
      let y = two (back cut.side both.one both.other) b in
      gives_view both.is (gives_text (slice_both cut.scanned.text.now i m e (walk_piece a).0 (walk_piece b).0)
      (record { out = y.out ++ x.out; holds = turns_swap cut.side both.one both.other x.holds y.holds; took = joins _ _ y.took x.took }))

  -- One or the other
  module _ {place first second i e : ℕ} {v : View} {P : Text → Type 0} (tag : Tagged row place 14 first) (found : second ≡ other_part cut place first) where
    pub left_gives : Takes cut first second i true → ((k : View) → CutWalk row cut first i e k → PartGives cut k i e P) →
        CutWalk row cut place i e v → PartGives cut v i e P
    left_gives chosen one w =
        let both = either_two found tag w in
        let x = one both.one (left_walks both tag.behind w chosen) in
        gives_view both.is (record { out = x.out; holds = turns_left x.holds; took = x.took })

    pub right_gives : Takes cut first second i false → ((l : View) → CutWalk row cut second i e l → PartGives cut l i e P) →
        CutWalk row cut place i e v → PartGives cut v i e P
    right_gives chosen two w =
        let both = either_two found tag w in
        let y = two both.other (right_walks both tag.behind w chosen) in
        gives_view both.is (record { out = y.out; holds = turns_right y.holds; took = y.took })

  -- Any number of parts
  pub each_gives : {place first i e : ℕ} {v : View} {P : Text → Type 0} → Tagged row place 15 first →
      ((l : View) → CutSeries row cut first i e l → PartGives cut (each l) i e P) → CutWalk row cut place i e v → PartGives cut v i e P
  each_gives tag parts w = let (l, is, s) = each_walks tag w in gives_view is (parts l s)

pub none_gives : (side : Side) (l : View) (text : Text) (i : ℕ) {P : Text → Type 0} → P [] → GivesSome (Turns side (each l) (slice text i i)) P
none_gives side l text i given = gives_text (slice_none text i) (record { out = []; holds = turns_none side; took = given })

pub more_gives : {side : Side} {l : View} (text : Text) (i m e : ℕ) {P Q R : Text → Type 0} → i ≤ m → m ≤ e →
    GivesSome (Turns side (each l) (slice text i m)) P → GivesSome (Turns side l (slice text m e)) Q → Joins P Q R → GivesSome (Turns side (each l) (slice text i e)) R
more_gives text i m e low high x y joins =
    gives_text (slice_both text i m e low high) (record { out = x.out ++ y.out; holds = turns_more x.holds y.holds; took = joins _ _ x.took y.took })

-- No part is left.
pub all_gives : {row : List ℕ} {cut : CutText} {place m e : ℕ} {l : View} (i : ℕ) {P : Text → Type 0} → CutSeries row cut place m e l → e ≤ m →
    GivesSome (Turns cut.side (each l) (slice cut.scanned.text.now i m)) P → GivesSome (Turns cut.side (each l) (slice cut.scanned.text.now i e)) P
all_gives {cut = cut} {m = m} {e} i rest done given =
    let ordered = cut_ordered rest.held.cut in
    let same : e ≡ m = omega arith in
    gives_text (ap (λ e. slice cut.scanned.text.now i e) same) given

-- The whole text
pub whole_gives : {side : Side} {v : View} (text : Text) {P : Text → Type 0} → GivesSome (Turns side v (slice text 0 (length text))) P → GivesSome (Turns side v text) P
whole_gives text given = gives_text (sym (take_all (length text - 0) text (omega arith))) given

-- At a place of a row stands one view at most.
pub same_view : {row : List ℕ} {at e e' : ℕ} {v v' : View} → Laid view_row ViewFine row at e v → Laid view_row ViewFine row at e' v' → v ≡ v'
same_view {v = v} {v'} l l' = ((splits_view v).only v' _ _ (sym l.laid ∙ l'.laid)).0

pub turned_whole : {row : List ℕ} {cut : CutText} {P : Text → Type 0} → CutWhole row cut →
    ((v : View) → WholeWalk row cut v → GivesSome (Turns cut.side v cut.scanned.text.now) P) → GivesSome (TurnedWhole row cut) P
turned_whole {cut = cut} c given =
    let g = given c.view c.walk in
    record {
      out = g.out;
      holds = record { turns = λ v w. subst (λ v. Turns cut.side v cut.scanned.text.now g.out) (same_view c.walk.laid w.laid) g.holds };
      took = g.took;
    }

-- The same, where more is known of what is taken than is asked for.
pub more_taken : {R P Q : Text → Type 0} → ((u : Text) → P u → Q u) → GivesSome R P → GivesSome R Q
more_taken so given = record { out = given.out; holds = given.holds; took = so given.out given.took }
