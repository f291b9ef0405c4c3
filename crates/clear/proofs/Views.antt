-- What stands at a place is a view: from what is found behind its node to what is found of the view.
use Rattle.std.proofs.Common.{ℕ, ◌+◌, ◌<◌, List, length, None, Option, sym, subst, MatchOption}
use Rattle.lens.specs.Forms.{Form, Matches, seq, or, many, exactly}
use Rattle.lens.specs.Clear.{CutOnce, Apart, PartsOnce}
use Rattle.lens.specs.Views.{View}
use Rattle.rows.specs.Rows.{form_row, text_row, view_row, FormFine, ViewFine}
use Rattle.rows.specs.Stands.{Stands, Nowhere, both_row, BothFine}
use Rattle.rows.specs.Nodes.{Tagged}
use Rattle.rows.proofs.Builds.{Builds}
use Rattle.rows.proofs.Tags.{Hidden, hidden_row, HiddenFine, builds_copy, builds_hide, builds_then, builds_swap, builds_either, builds_each}
use Rattle.rows.proofs.Unique.{splits_view}
use Rattle.clear.specs.declared.side.Side.{Side}
use Rattle.clear.specs.declared.side.Side.TheVariants.{Source, Look}
use Rattle.clear.specs.Sides.{side_form, ClearOn}
use Rattle.clear.specs.Filled.{Finding, Laid, Finds, Found, TwoViews, ViewFills, CopyFills, HiddenFills, LiteralFills, SeriesFills, TurnedFills, ChoiceFills, PartsFills}
use Rattle.clear.proofs.Laying.{laid_somewhere, laid_behind, laid_both}
use Rattle.clear.proofs.Lengths.{form_long, view_long, both_long}

-- Where no view stands, nothing need be found.
pub view_nowhere : {side : Side} {s : List ℕ} {at next : ℕ} {t t' : List ℕ} → Nowhere view_row ViewFine s at → ViewFills side s at next t t' None
view_nowhere n = record { fills = λ v e l out. laid_somewhere l n }

module _ {side : Side} {s : List ℕ} {at i next : ℕ} {t t' : List ℕ} {r : Option Finding} where
  -- one thing behind the node
  found_view : {A : Type 0} {tag : ℕ} (row : A → List ℕ) (fine : A → Type 0) (form : A → Form) (C : A → Type 0) (b : Builds tag row fine view_row ViewFine) → ((a : A) → 0 < length (row a)) → ((a : A) (e : ℕ) → MatchOption r ⊥ (Finds t t' at e next (form a) (C a)) → MatchOption r ⊥ (Finds t t' at e next (side_form side (b.make a)) (ClearOn side (b.make a)))) → Tagged s at tag i → Found row fine form C s at (at + 1) next t t' r → ViewFills side s at next t t' r
  found_view row fine form C b long same g found = record {
    fills = λ v e l out.
        let (a, is, part) = laid_behind b long g l in
        let part' : Laid row fine s (at + 1) e a = subst (λ z. Laid row fine s z e a) g.behind part in
        subst (λ w. MatchOption r ⊥ (Finds t t' at e next (side_form side w) (ClearOn side w))) (sym is) (same a e (found a e part' out));
  }

  -- two views behind the node
  found_two : {tag m : ℕ} (join : Form → Form → Form) (holds : Form → Form → Type 0) (b : Builds tag (both_row view_row view_row) (BothFine ViewFine ViewFine) view_row ViewFine) → ((k l : View) (e : ℕ) → MatchOption r ⊥ (Finds t t' at e next (join (side_form side k) (side_form side l)) (ClearOn side k × ClearOn side l × holds (side_form side k) (side_form side l))) → MatchOption r ⊥ (Finds t t' at e next (side_form side (b.make (k, l))) (ClearOn side (b.make (k, l))))) → Tagged s at tag i → Stands view_row ViewFine s i m → TwoViews side join holds s at m next t t' r → ViewFills side s at next t t' r
  found_two {m = m} join holds b same g a found = record {
    fills = λ v e l out.
        let (p, is, parts) = laid_behind b (both_long view_row view_row view_long) g l in
        let (k_laid, l_laid) = laid_both splits_view view_long p a parts in
        let k_laid' : Laid view_row ViewFine s (at + 1) m p.0 = subst (λ z. Laid view_row ViewFine s z m p.0) g.behind k_laid in
        subst (λ w. MatchOption r ⊥ (Finds t t' at e next (side_form side w) (ClearOn side w))) (sym is) (same p.0 p.1 e (found p.0 p.1 e k_laid' l_laid out));
  }

pub view_copy : (side : Side) {s : List ℕ} {at i next : ℕ} {t t' : List ℕ} {r : Option Finding} → Tagged s at 10 i → CopyFills s at next t t' r → ViewFills side s at next t t' r
view_copy Source g a = found_view form_row FormFine (λ f. f) (λ f. Unit {0}) builds_copy form_long (λ f e h. h) g a.fills
view_copy Look g a = found_view form_row FormFine (λ f. f) (λ f. Unit {0}) builds_copy form_long (λ f e h. h) g a.fills

hidden_long : (p : Hidden) → 0 < length (hidden_row p)
hidden_long = both_long form_row (both_row text_row text_row) form_long

pub view_hidden : {s : List ℕ} {at i next : ℕ} {t t' : List ℕ} {r : Option Finding} → Tagged s at 11 i → HiddenFills s at next t t' r → ViewFills Source s at next t t' r
view_hidden g a = found_view hidden_row HiddenFine (λ p. p.0) (λ p. Matches p.0 p.1.1) builds_hide hidden_long (λ p e h. h) g a.fills

pub view_literal : {s : List ℕ} {at i next : ℕ} {t t' : List ℕ} {r : Option Finding} → Tagged s at 11 i → LiteralFills s at next t t' r → ViewFills Look s at next t t' r
view_literal g a = found_view hidden_row HiddenFine (λ p. exactly p.1.0) (λ p. Unit {0}) builds_hide hidden_long (λ p e h. h) g a.fills

pub view_then : (side : Side) {s : List ℕ} {at i m next : ℕ} {t t' : List ℕ} {r : Option Finding} → Tagged s at 12 i → Stands view_row ViewFine s i m → SeriesFills side s at m next t t' r → ViewFills side s at next t t' r
view_then Source g a b = found_two seq CutOnce builds_then (λ k l e h. h) g a b.fills
view_then Look g a b = found_two seq CutOnce builds_then (λ k l e h. h) g a b.fills

-- the sources of swap stand as those of then do, its looks in the other order
pub view_swap : {s : List ℕ} {at i m next : ℕ} {t t' : List ℕ} {r : Option Finding} → Tagged s at 13 i → Stands view_row ViewFine s i m → SeriesFills Source s at m next t t' r → ViewFills Source s at next t t' r
view_swap g a b = found_two seq CutOnce builds_swap (λ k l e h. h) g a b.fills

pub view_turned : {s : List ℕ} {at i m next : ℕ} {t t' : List ℕ} {r : Option Finding} → Tagged s at 13 i → Stands view_row ViewFine s i m → TurnedFills Look s at m next t t' r → ViewFills Look s at next t t' r
view_turned g a b = found_two (λ f h. seq h f) (λ f h. CutOnce h f) builds_swap (λ k l e h. h) g a b.fills

pub view_either : (side : Side) {s : List ℕ} {at i m next : ℕ} {t t' : List ℕ} {r : Option Finding} → Tagged s at 14 i → Stands view_row ViewFine s i m → ChoiceFills side s at m next t t' r → ViewFills side s at next t t' r
view_either Source g a b = found_two or Apart builds_either (λ k l e h. h) g a b.fills
view_either Look g a b = found_two or Apart builds_either (λ k l e h. h) g a b.fills

pub view_each : (side : Side) {s : List ℕ} {at i next : ℕ} {t t' : List ℕ} {r : Option Finding} → Tagged s at 15 i → PartsFills side s at next t t' r → ViewFills side s at next t t' r
view_each Source g a = found_view view_row ViewFine (λ l. many (side_form Source l)) (λ l. ClearOn Source l × PartsOnce (side_form Source l)) builds_each view_long (λ l e h. h) g a.fills
view_each Look g a = found_view view_row ViewFine (λ l. many (side_form Look l)) (λ l. ClearOn Look l × PartsOnce (side_form Look l)) builds_each view_long (λ l e h. h) g a.fills
