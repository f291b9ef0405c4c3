-- From a part of a view in a cut text to its parts, for each kind of view: where they stand in the row, in the tree and in
-- the text.
use Rattle.std.proofs.Common.{◌≡◌, ℕ, ◌+◌, ◌<◌, ◌≤◌, true, false, cond, List, ◌++◌, length, drop, sym, refl, ap, ◌∙◌, subst, ap₂, append_assoc, arith, length-append, drop-drop, drop_at, eq-eqb, ne_eqb}
use Rattle.lens.specs.Forms.{Form, seq, or, many, Matches}
use Rattle.lens.specs.Views.{View, then, swap, either, each}
use Rattle.rows.specs.Rows.{view_row, ViewFine}
use Rattle.rows.specs.Stands.{both_row, BothFine}
use Rattle.rows.specs.Nodes.{Tagged}
use Rattle.rows.proofs.Builds.{Builds}
use Rattle.rows.proofs.Tags.{builds_then, builds_swap, builds_either, builds_each}
use Rattle.clear.specs.declared.side.Side.{Side}
use Rattle.clear.specs.declared.side.Side.TheVariants.{Source, Look}
use Rattle.clear.specs.Sides.{side_form}
use Rattle.clear.specs.Filled.{Laid}
use Rattle.clear.proofs.Laying.{laid_length, laid_behind}
use Rattle.clear.proofs.Lengths.{view_long, both_long}
use Rattle.trees.specs.declared.nodes.Node.TheVariants.{Seq, Or, Many}
use Rattle.trees.specs.Nodes.{node_at}
use Rattle.trees.specs.Tree.{Grows, grows_same, grows_seq, grows_or, grows_many}
use Rattle.grow.specs.Planted.{Planted, planted_copy, planted_hidden, planted_shown, planted_then, planted_swap, planted_turned, planted_either, planted_each}
use Rattle.walk.specs.Turns.{front, back}
use Rattle.walk.specs.Spans.{slice}
use Rattle.walk.specs.declared.cut_text.CutText.{CutText}
use Rattle.walk.specs.Walks.{Ends, other_of, other_part, CutWalk, CutSeries, Takes}
use Rattle.walk.proofs.Holding.{Held, piece, hold_seq, hold_left, hold_right, hold_many, hold_first}

-- A planted view grows.
pub planted_grows : {t : List ℕ} {side : Side} {at : ℕ} {v : View} → Planted t side at v → Grows t at (side_form side v)
planted_grows {side = Source} (planted_copy e a) = grows_same _ e a
planted_grows {side = Look} (planted_copy e a) = grows_same _ e a
planted_grows (planted_hidden e a) = grows_same _ e a
planted_grows (planted_shown m is e a) = grows_same m e a
planted_grows {side = Source} (planted_then m is e a b) = grows_seq _ m e (planted_grows a) (planted_grows b)
planted_grows {side = Look} (planted_then m is e a b) = grows_seq _ m e (planted_grows a) (planted_grows b)
planted_grows (planted_swap m is e a b) = grows_seq _ m e (planted_grows a) (planted_grows b)
planted_grows (planted_turned m is e a b) = grows_seq m _ e (planted_grows b) (planted_grows a)
planted_grows {side = Source} (planted_either m is e a b) = grows_or _ m e (planted_grows a) (planted_grows b)
planted_grows {side = Look} (planted_either m is e a b) = grows_or _ m e (planted_grows a) (planted_grows b)
planted_grows {side = Source} (planted_each e a) = grows_many _ e (planted_grows a)
planted_grows {side = Look} (planted_each e a) = grows_many _ e (planted_grows a)

-- Where the parts of a planted view stand: the first one right behind it, the second one behind the first.
planted_at : {t : List ℕ} {side : Side} {x y : ℕ} {v : View} → x ≡ y → Planted t side x v → Planted t side y v
planted_at {t} {side} {v = v} e p = subst (λ x. Planted t side x v) e p

module _ {t : List ℕ} {q first : ℕ} (behind : first ≡ q + 1) where
  module _ {second : ℕ} {k l : View} (long : second ≡ first + length (view_row k)) where
    then_planted : {side : Side} → Planted t side q (then k l) → (node_at t q ≡ Seq first second) × Planted t side first k × Planted t side second l
    then_planted (planted_then m is e a b) =
        let same : m ≡ second = omega arith in
        (e ∙ ap₂ Seq (sym behind) same, planted_at (sym behind) a, planted_at same b)

    swap_planted : {side : Side} → Planted t side q (swap k l) →
        (node_at t q ≡ Seq (front side first second) (back side first second)) × Planted t side first k × Planted t side second l
    swap_planted (planted_swap m is e a b) =
        let same : m ≡ second = omega arith in
        (e ∙ ap₂ Seq (sym behind) same, planted_at (sym behind) a, planted_at same b)
    swap_planted (planted_turned m is e a b) =
        let same : m ≡ second = omega arith in
        (e ∙ ap₂ Seq same (sym behind), planted_at (sym behind) a, planted_at same b)

    either_planted : {side : Side} → Planted t side q (either k l) → (node_at t q ≡ Or first second) × Planted t side first k × Planted t side second l
    either_planted (planted_either m is e a b) =
        let same : m ≡ second = omega arith in
        (e ∙ ap₂ Or (sym behind) same, planted_at (sym behind) a, planted_at same b)

    -- The tree says where the second part stands.
    then_other : {side : Side} → Planted t side q (then k l) → other_of (node_at t q) first ≡ second
    then_other p = ap (λ n. other_of n first) (then_planted p).0 ∙ ap (λ b. cond b second first) (eq-eqb first first refl)

    swap_other : (side : Side) → Planted t side q (swap k l) → other_of (node_at t q) first ≡ second
    swap_other Source p = ap (λ n. other_of n first) (swap_planted p).0 ∙ ap (λ b. cond b second first) (eq-eqb first first refl)
    swap_other Look p =
        ap (λ n. other_of n first) (swap_planted p).0
        ∙ ap (λ b. cond b first second) (ne_eqb second first (λ e. omega (arith, long, view_long k)))

    either_other : {side : Side} → Planted t side q (either k l) → other_of (node_at t q) first ≡ second
    either_other p = ap (λ n. other_of n first) (either_planted p).0

  each_planted : {side : Side} {l : View} → Planted t side q (each l) → (node_at t q ≡ Many first) × Planted t side first l
  each_planted (planted_each e a) = (e ∙ ap Many (sym behind), planted_at (sym behind) a)

-- The forms of a view's sides, by the forms of its parts
form_then : (side : Side) (k l : View) → side_form side (then k l) ≡ seq (side_form side k) (side_form side l)
form_then Source k l = refl
form_then Look k l = refl

form_swap : (side : Side) (k l : View) → side_form side (swap k l) ≡ seq (side_form side (front side k l)) (side_form side (back side k l))
form_swap Source k l = refl
form_swap Look k l = refl

form_either : (side : Side) (k l : View) → side_form side (either k l) ≡ or (side_form side k) (side_form side l)
form_either Source k l = refl
form_either Look k l = refl

form_each : (side : Side) (l : View) → side_form side (each l) ≡ many (side_form side l)
form_each Source l = refl
form_each Look l = refl

-- Two views that stand one after the other in a row: the second one where the first ends.
module _ {s : List ℕ} {at e : ℕ} (p : View × View) (l : Laid (both_row view_row view_row) (BothFine ViewFine ViewFine) s at e p) where
  abbrev middle : ℕ
  middle = at + length (view_row p.0)

  whole_long : e ≡ middle + length (view_row p.1)
  whole_long =
      let long = laid_length (both_row view_row view_row) s at e p (omega (arith, l.less, l.within)) l.within l.laid in
      omega (arith, long, length-append (view_row p.0) (view_row p.1))

  whole_laid : drop at s ≡ view_row p.0 ++ (view_row p.1 ++ drop e s)
  whole_laid = l.laid ∙ append_assoc (view_row p.0) (view_row p.1) (drop e s)

  rest_laid : drop middle s ≡ view_row p.1 ++ drop e s
  rest_laid =
      sym (drop-drop (length (view_row p.0)) at s) ∙ ap (drop (length (view_row p.0))) whole_laid
      ∙ drop_at (view_row p.0) (view_row p.1 ++ drop e s) (length (view_row p.0)) refl

  split_laid : Laid view_row ViewFine s at middle p.0 × Laid view_row ViewFine s middle e p.1
  split_laid = (
    record { sound = l.sound.0; less = omega (arith, view_long p.0); within = omega (arith, whole_long, l.within); laid = whole_laid ∙ ap (λ r. view_row p.0 ++ r) (sym rest_laid) },
    record { sound = l.sound.1; less = omega (arith, whole_long, view_long p.1); within = l.within; laid = rest_laid },
  )

-- A view of two parts that stand at `first` and `second` of a row.
pub record Two (join : View → View → View) (row : List ℕ) (first second : ℕ) (v : View) : Type 0 where
  pub one : View
  pub other : View
  pub is : v ≡ join one other
  pub end : ℕ
  pub laid_one : Laid view_row ViewFine row first second one
  pub laid_other : Laid view_row ViewFine row second end other

two_long : {join : View → View → View} {row : List ℕ} {first second : ℕ} {v : View} (two : Two join row first second v) →
    second ≡ first + length (view_row two.one)
two_long {row = row} {first} {second} two =
    let k = two.laid_one in
    laid_length view_row row first second two.one (omega (arith, k.less, k.within)) k.within k.laid

-- Two views behind a tag, where P says of the second part that it stands right behind the first.
two_laid : {t : ℕ} (b : Builds t (both_row view_row view_row) (BothFine ViewFine ViewFine) view_row ViewFine)
    {row : List ℕ} {place first second e : ℕ} {v : View} → Tagged row place t first → Laid view_row ViewFine row place e v →
    ((p : View × View) → v ≡ b.make p → second ≡ first + length (view_row p.0)) → Two (λ k l. b.make (k, l)) row first second v
two_laid b {row} {first = first} {second} {e} tag laid stands =
    let (p, is, both) = laid_behind b (both_long view_row view_row view_long) tag laid in
    let same = sym (stands p is) in
    let (k, l) = split_laid p both in
    record {
      one = p.0;
      other = p.1;
      is = is;
      end = e;
      laid_one = subst (λ m. Laid view_row ViewFine row first m p.0) same k;
      laid_other = subst (λ m. Laid view_row ViewFine row m e p.1) same l;
    }

abbrev HeldOf : CutText → Form → ℕ → ℕ → ℕ → Type 0
HeldOf cut = Held cut.scanned cut.marks.now

abbrev PlantedIn : CutText → ℕ → View → Type 0
PlantedIn cut = Planted cut.scanned.tree.words.now cut.side

module _ {row : List ℕ} {cut : CutText} where
  -- A part of a view, as a part of its form.
  held : {place i e : ℕ} {v : View} {f : Form} → CutWalk row cut place i e v → side_form cut.side v ≡ f → HeldOf cut f place i e
  held {place} {i} {e} w is = subst (λ f. HeldOf cut f place i e) is (record { holds = w.holds; part = w.part })

  planted : {place i e : ℕ} {v v' : View} → CutWalk row cut place i e v → v ≡ v' → PlantedIn cut place v'
  planted {place} w is = subst (λ v. PlantedIn cut place v) is w.planted

  walk : {place behind i e : ℕ} {v : View} → Laid view_row ViewFine row place behind v → PlantedIn cut place v →
      HeldOf cut (side_form cut.side v) place i e → CutWalk row cut place i e v
  walk l p h = record { behind = _; laid = l; planted = p; holds = h.holds; part = h.part }

  -- The two parts of a view, by its tag and by the tree.
  module _ {place first second i e : ℕ} {v : View} (found : second ≡ other_part cut place first) where
    pub then_two : Tagged row place 12 first → CutWalk row cut place i e v → Two then row first second v
    then_two tag w = two_laid builds_then tag w.laid (λ p is. found ∙ then_other tag.behind refl (planted w is))

    pub swap_two : Tagged row place 13 first → CutWalk row cut place i e v → Two swap row first second v
    swap_two tag w = two_laid builds_swap tag w.laid (λ p is. found ∙ swap_other tag.behind refl cut.side (planted w is))

    pub either_two : Tagged row place 14 first → CutWalk row cut place i e v → Two either row first second v
    either_two tag w = two_laid builds_either tag w.laid (λ p is. found ∙ either_other tag.behind refl (planted w is))

-- Two views in the order in which their parts stand in the text: where they stand in the row, and that they are planted.
in_order : {row t : List ℕ} (side : Side) {first second e : ℕ} {k l : View} → Laid view_row ViewFine row first second k →
    Laid view_row ViewFine row second e l → Planted t side first k → Planted t side second l →
    (((b : ℕ) × Laid view_row ViewFine row (front side first second) b (front side k l)) × Planted t side (front side first second) (front side k l)) ×
    (((b : ℕ) × Laid view_row ViewFine row (back side first second) b (back side k l)) × Planted t side (back side first second) (back side k l))
in_order Source k l a b = (((_, k), a), ((_, l), b))
in_order Look k l a b = (((_, l), b), ((_, k), a))

module _ {row : List ℕ} {cut : CutText} where
  -- A part of a view is a part of the text, and of the form of the view.
  pub walk_piece : {place i e : ℕ} {v : View} → CutWalk row cut place i e v →
      (i ≤ e) × (e ≤ length cut.scanned.text.now) × Matches (side_form cut.side v) (slice cut.scanned.text.now i e)
  walk_piece w = let p = piece (held w refl) in (p.ordered, p.within, p.matches)

  pub then_walks : {place first second i m e : ℕ} {v : View} (two : Two then row first second v) → first ≡ place + 1 → Ends cut first i m →
      CutWalk row cut place i e v → CutWalk row cut first i m two.one × CutWalk row cut second m e two.other
  then_walks {first = first} {second} {i} {m} {e} two behind ends w =
      let (node, a, b) = then_planted behind (two_long two) (planted w two.is) in
      let form = ap (side_form cut.side) two.is ∙ form_then cut.side two.one two.other in
      let (n, x, y) = hold_seq node (planted_grows a) (planted_grows b) (held w form) in
      let same : n ≡ m = sym (ends n x.part) in (
        subst (λ n. CutWalk row cut first i n two.one) same (walk two.laid_one a x),
        subst (λ n. CutWalk row cut second n e two.other) same (walk two.laid_other b y),
      )

  -- The places of the two parts are given in the order in which they stand in the text.
  pub swap_walks : {place first second i m e : ℕ} {v : View} {r : ℕ × ℕ} (two : Two swap row first second v) → first ≡ place + 1 →
      r ≡ (front cut.side first second, back cut.side first second) → Ends cut r.0 i m → CutWalk row cut place i e v →
      CutWalk row cut r.0 i m (front cut.side two.one two.other) × CutWalk row cut r.1 m e (back cut.side two.one two.other)
  swap_walks {first = first} {second} {i} {m} {e} {r = r} two behind order ends w =
      let side = cut.side in
      let (node, a, b) = swap_planted behind (two_long two) (planted w two.is) in
      let (x, y) = in_order side two.laid_one two.laid_other a b in
      let form = ap (side_form side) two.is ∙ form_swap side two.one two.other in
      let (n, x', y') = hold_seq node (planted_grows x.1) (planted_grows y.1) (held w form) in
      let ends' : Ends cut (front side first second) i m = subst (λ r. Ends cut r.0 i m) order ends in
      let same : n ≡ m = sym {b = n} (ends' n x'.part) in
      let before = subst (λ n. CutWalk row cut (front side first second) i n (front side two.one two.other)) same (walk x.0.1 x.1 x') in
      let after = subst (λ n. CutWalk row cut (back side first second) n e (back side two.one two.other)) same (walk y.0.1 y.1 y') in (
        subst (λ r. CutWalk row cut r.0 i m (front side two.one two.other)) (sym order) before,
        subst (λ r. CutWalk row cut r.1 m e (back side two.one two.other)) (sym order) after,
      )

  module _ {place first second i e : ℕ} {v : View} (two : Two either row first second v) (behind : first ≡ place + 1) (w : CutWalk row cut place i e v) where
    pub left_walks : Takes cut first second i true → CutWalk row cut first i e two.one
    left_walks chosen =
        let (node, a, b) = either_planted behind (two_long two) (planted w two.is) in
        let form = ap (side_form cut.side) two.is ∙ form_either cut.side two.one two.other in
        walk two.laid_one a (hold_left node (planted_grows a) (planted_grows b) chosen (held w form))

    pub right_walks : Takes cut first second i false → CutWalk row cut second i e two.other
    right_walks chosen =
        let (node, a, b) = either_planted behind (two_long two) (planted w two.is) in
        let form = ap (side_form cut.side) two.is ∙ form_either cut.side two.one two.other in
        walk two.laid_other b (hold_right node (planted_grows a) (planted_grows b) chosen (held w form))

  pub each_walks : {place first i e : ℕ} {v : View} → Tagged row place 15 first → CutWalk row cut place i e v →
      (l : View) × (v ≡ each l) × CutSeries row cut first i e l
  each_walks tag w =
      let (l, is, laid) = laid_behind builds_each view_long tag w.laid in
      let (node, a) = each_planted tag.behind (planted w is) in
      let form = ap (side_form cut.side) is ∙ form_each cut.side l in
      (l, is, record { behind = _; laid = laid; planted = a; held = hold_many node (planted_grows a) (held w form) })

  -- The first of any number of parts, and then the others
  pub first_walks : {place i m e : ℕ} {l : View} → Ends cut place i m → i < e → CutSeries row cut place i e l →
      CutWalk row cut place i m l × CutSeries row cut place m e l × (i < m)
  first_walks {place} {i} {m} {e} {l} ends more s =
      let (n, x, y, less) = hold_first s.held more in
      let same : n ≡ m = sym (ends n x.part) in (
        subst (λ n. CutWalk row cut place i n l) same (walk s.laid s.planted x),
        subst (λ n. CutSeries row cut place n e l) same (record { behind = _; laid = s.laid; planted = s.planted; held = y }),
        subst (λ n. i < n) same less,
      )
