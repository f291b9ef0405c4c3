-- A cut is a cut: by the bits of the backward pass each part is of its form, and what stands behind it fits.
-- Not here: the marks, which need not be right for that.
use Rattle.std.proofs.Common.{◌≡◌, ℕ, ◌+◌, ◌<◌, ◌≤◌, Bool, true, false, List, [], ◌∷◌, ◌++◌, length, get_or, drop, sym, refl, ap, ◌∙◌, subst, inl, inr, append_assoc, arith, length-append}
use Rattle.std.proofs.lemmas.Bool.{cases_eq, cases_lt, both_ways}
use Rattle.std.proofs.lemmas.List.{drop_more, drop_all}
use Rattle.lens.specs.Forms.{Text, Form, empty, one, seq, or, many, Matches, is_one, is_seq, is_left, is_right, is_none, is_more}
use Rattle.trees.specs.declared.nodes.Node.{Node}
use Rattle.trees.specs.declared.nodes.Node.TheVariants.{Empty, One, Seq, Or, Many, Same, Byte}
use Rattle.trees.specs.declared.tree.Tree.{Tree}
use Rattle.trees.specs.declared.scanned.Scanned.{Scanned}
use Rattle.trees.specs.Nodes.{node_at}
use Rattle.trees.specs.Tree.{Stack, Grows, grows_empty, grows_one, grows_seq, grows_or, grows_many, grows_same, grows_byte, Fits, Begins, At, at_first, at_second, at_left, at_right, at_many, at_same, at_byte}
use Rattle.trees.proofs.Begins.{begins_end, fits_cons_sound, fits_cons_complete, begins_one_complete, one_not_empty, begins_seq_complete, begins_or_complete, begins_many_complete, Eats}
use Rattle.trees.proofs.Stacks.{fits_parts_complete, fits_seq_complete}
use Rattle.trees.proofs.Within.{at_grows}
use Rattle.marks.specs.Cut.{Cuttable, whole, inner, series, Cut, cut_none, cut_some, cut_one, cut_byte, cut_seq, cut_left, cut_right, cut_many, cut_same, cut_stop, cut_more}
use Rattle.trees.specs.Cells.{begun}
use Rattle.trees.proofs.Tables.{begun_tells}

-- What stands at a place, by its node: its form, and where the parts stand.
pub data Shape (words : List ℕ) (root : ℕ) : Node → Form → Stack → Type 0 where
  shape_empty : {σ : Stack} → Shape words root Empty empty σ
  shape_one : {a b : ℕ} {σ : Stack} → Shape words root (One a b) (one a b) σ
  shape_byte : {b x : ℕ} {f : Form} {σ : Stack} → At words root x f σ → Shape words root (Byte b x) (seq (one b b) f) σ
  shape_seq : {x y : ℕ} {f g : Form} {σ : Stack} → At words root x f (g ∷ σ) → At words root y g σ → Shape words root (Seq x y) (seq f g) σ
  shape_or : {x y : ℕ} {f g : Form} {σ : Stack} → At words root x f σ → At words root y g σ → Shape words root (Or x y) (or f g) σ
  shape_many : {x : ℕ} {f : Form} {σ : Stack} → At words root x f (many f ∷ σ) → Shape words root (Many x) (many f) σ
  shape_same : {x : ℕ} {f : Form} {σ : Stack} → At words root x f σ → Shape words root (Same x) f σ

module _ {words : List ℕ} {root : ℕ} where
  node_is : {n n' : Node} {f : Form} {σ : Stack} → n ≡ n' → Shape words root n' f σ → Shape words root n f σ
  node_is {f = f} {σ = σ} e shape = subst (λ n. Shape words root n f σ) (sym e) shape

  pub shape_of : {q : ℕ} {f : Form} {σ : Stack} → Grows words q f → At words root q f σ → Shape words root (node_at words q) f σ
  shape_of (grows_empty e) at = node_is e shape_empty
  shape_of (grows_one e) at = node_is e shape_one
  shape_of (grows_seq x y e a b) at =
      node_is e (shape_seq (at_first _ x y e a b at) (at_second _ x y e a b at))
  shape_of (grows_or x y e a b) at =
      node_is e (shape_or (at_left _ x y e a b at) (at_right _ x y e a b at))
  shape_of (grows_many x e a) at = node_is e (shape_many (at_many _ x e a at))
  shape_of (grows_same x e a) at = node_is e (shape_same (at_same _ x e a at))
  shape_of (grows_byte x e a) at = node_is e (shape_byte (at_byte _ _ x e a at))

-- From i to e stands a text of the form f, and behind it what fits σ; it is empty only if no other one begins there.
pub record Found (text : Text) (f : Form) (σ : Stack) (i e : ℕ) : Type 0 where
  pub piece : Text
  pub is : drop i text ≡ piece ++ drop e text
  pub long : i + length piece ≡ e
  pub within : e ≤ length text
  pub matches : Matches f piece
  pub rest : Fits σ (drop e text)
  pub moves : Begins f σ (drop i text) → i < e

-- A part that is not empty begins before the end of the text.
begins_before : (text : Text) (i : ℕ) {f : Form} {σ : Stack} → Begins f σ (drop i text) → i < length text
begins_before text i b = elim (cases_lt i (length text)) [
  | inl before ↦ before
  | inr past ↦ absurd (begins_end (drop_all i text past) b)
]

module _ {text : Text} where
  -- The empty text
  found_none : {f : Form} {σ : Stack} {i : ℕ} → i ≤ length text → Matches f [] → Fits σ (drop i text) →
      (Begins f σ (drop i text) → ⊥) → Found text f σ i i
  found_none l m fit not_more =
      record { piece = []; is = refl; long = omega arith; within = l; matches = m; rest = fit; moves = λ b. absurd (not_more b) }

  -- One byte
  pub found_one : {a b : ℕ} {σ : Stack} (i : ℕ) → Begins (one a b) σ (drop i text) → Found text (one a b) σ i (i + 1)
  found_one {a} {b} {σ} i begin =
      let l : i < length text = begins_before text i begin in
      let cons = drop_more text i 0 l in
      let eats : Eats a b (Fits σ) (get_or text i 0 ∷ drop (i + 1) text) = subst (Eats a b (Fits σ)) cons (begins_one_complete begin) in
      record {
        piece = get_or text i 0 ∷ [];
        is = cons;
        long = omega arith;
        within = omega arith;
        matches = is_one eats.0 eats.1;
        rest = eats.2;
        moves = λ b. omega arith;
      }

  -- One text after the other
  found_both : {f g h : Form} {σ : Stack} {i m e : ℕ} → ((u v : Text) → Matches f u → Matches g v → Matches h (u ++ v)) →
      Found text f (g ∷ σ) i m → Found text g σ m e → i < e → Found text h σ i e
  found_both join a b l =
      record {
        piece = a.piece ++ b.piece;
        is = a.is ∙ ap (λ t. a.piece ++ t) b.is ∙ sym (append_assoc a.piece b.piece _);
        long = omega (arith, a.long, b.long, length-append a.piece b.piece);
        within = b.within;
        matches = join a.piece b.piece a.matches b.matches;
        rest = b.rest;
        moves = λ _. l;
      }

  -- The same text, of another form
  found_like : {f g : Form} {σ : Stack} {i e : ℕ} → ((u : Text) → Matches f u → Matches g u) → Found text f σ i e → i < e → Found text g σ i e
  found_like like a l =
      record {
        piece = a.piece;
        is = a.is;
        long = a.long;
        within = a.within;
        matches = like a.piece a.matches;
        rest = a.rest;
        moves = λ _. l;
      }

  -- The second text begins where the first one does if that is empty.
  seq_moves : {f g : Form} {σ : Stack} {i m e : ℕ} → Found text f (g ∷ σ) i m → Found text g σ m e → Begins (seq f g) σ (drop i text) → i < e
  seq_moves {f} {g} {σ} {i} {m} {e} a b begin = elim (cases_eq i m) [
    | inl same ↦ elim (begins_seq_complete begin) [
      | inl first ↦ omega (arith, a.moves first, b.long)
      | inr second ↦ omega (arith, b.moves (subst (λ k. Begins g σ (drop k text)) same second.1))
    ]
    | inr more ↦ omega (arith, a.long, b.long)
  ]

module _ (scanned : Scanned) where
  abbrev tree : Tree
  tree = scanned.tree

  abbrev text : Text
  text = scanned.text.now

  abbrev Stands : ℕ → Form → Stack → Type 0
  Stands q f σ = At tree.words.now tree.root q f σ

  abbrev S : ℕ → ℕ → Bool
  S = begun scanned

  pub begins_true : (i : ℕ) {q : ℕ} {f : Form} {σ : Stack} → Stands q f σ → S i q ≡ true → Begins f σ (drop i text)
  begins_true i at s = (begun_tells scanned i at).0 s

  pub begins_false : (i : ℕ) {q : ℕ} {f : Form} {σ : Stack} → Stands q f σ → S i q ≡ false → Begins f σ (drop i text) → ⊥
  begins_false i at s b = both_ways _ s ((begun_tells scanned i at).1 b)

  -- What a cut says of the text
  abbrev Says : Cuttable → ℕ → ℕ → Type 0
  Says (whole q) i e = (f : Form) (σ : Stack) → Stands q f σ → i ≤ length text → Fits (f ∷ σ) (drop i text) → Found text f σ i e
  Says (inner n) i e = (f : Form) (σ : Stack) → Shape tree.words.now tree.root n f σ → i ≤ length text → Begins f σ (drop i text) → Found text f σ i e
  Says (series x) i e = (f : Form) (σ : Stack) → Stands x f (many f ∷ σ) → i ≤ length text → Fits (many f ∷ σ) (drop i text) → Found text (many f) σ i e

  says_none : {q i : ℕ} → S i q ≡ false → Says (whole q) i i
  says_none s f σ at l fit = elim (fits_cons_complete fit) [
    | inl b ↦ absurd (begins_false _ at s b)
    | inr h ↦ found_none l h.0 h.1 (begins_false _ at s)
  ]

  says_one : {a b i : ℕ} → Says (inner (One a b)) i (i + 1)
  says_one f σ shape_one l b = found_one _ b

  says_byte : {b x i e : ℕ} → Says (whole x) (i + 1) e → Says (inner (Byte b x)) i e
  says_byte rest f σ (shape_byte at) l b = elim (begins_seq_complete b) [
    | inl first ↦
        let a = found_one _ first in
        let c = rest _ σ at a.within a.rest in
        found_both is_seq a c (omega (arith, c.long))
    | inr none ↦ absurd (one_not_empty none.0)
  ]

  says_seq : {x y i m e : ℕ} → Says (whole x) i m → Says (whole y) m e → Says (inner (Seq x y)) i e
  says_seq first second f σ (shape_seq at at') l b =
      let a = first _ _ at l (fits_seq_complete (fits_cons_sound (inl b))) in
      let c = second _ σ at' a.within a.rest in
      found_both is_seq a c (seq_moves a c b)

  says_left : {x y i e : ℕ} → S i x ≡ true → Says (whole x) i e → Says (inner (Or x y)) i e
  says_left s part f σ (shape_or at at') l b =
      let begin = begins_true _ at s in
      let a = part _ σ at l (fits_cons_sound (inl begin)) in
      found_like (λ u m. is_left m) a (a.moves begin)

  says_right : {x y i e : ℕ} → S i x ≡ false → Says (whole y) i e → Says (inner (Or x y)) i e
  says_right s part f σ (shape_or at at') l b = elim (begins_or_complete b) [
    | inl left ↦ absurd (begins_false _ at s left)
    | inr right ↦
        let a = part _ σ at' l (fits_cons_sound (inl right)) in
        found_like (λ u m. is_right m) a (a.moves right)
  ]

  says_many : {x i e : ℕ} → Says (series x) i e → Says (inner (Many x)) i e
  says_many parts f σ (shape_many at) l b = parts _ σ at l (fits_cons_sound (inl b))

  says_same : {x i e : ℕ} → Says (whole x) i e → Says (inner (Same x)) i e
  says_same part f σ (shape_same at) l b = part f σ at l (fits_cons_sound (inl b))

  says_stop : {x i : ℕ} → S i x ≡ false → Says (series x) i i
  says_stop s f σ at l fit = elim (fits_parts_complete fit) [
    | inl b ↦ absurd (begins_false _ at s b)
    | inr rest ↦ found_none l is_none rest (λ b. begins_false _ at s (begins_many_complete b))
  ]

  says_more : {x i m e : ℕ} → S i x ≡ true → Says (whole x) i m → Says (series x) m e → Says (series x) i e
  says_more s first more f σ at l fit =
      let begin = begins_true _ at s in
      let a = first f _ at l (fits_cons_sound (inl begin)) in
      let c = more f σ at a.within a.rest in
      found_both is_more a c (omega (arith, a.moves begin, c.long))

  pub sound : {M : ℕ → ℕ → Bool} {k : Cuttable} {i e : ℕ} → Cut tree.words.now S M k i e → Says k i e
  sound (cut_none s) = says_none s
  sound (cut_some s c m) = λ f σ at l fit. sound c f σ (shape_of (at_grows at) at) l (begins_true _ at s)
  sound cut_one = says_one
  sound (cut_byte c) = says_byte (sound c)
  sound (cut_seq m c d) = says_seq (sound c) (sound d)
  sound (cut_left s c) = says_left s (sound c)
  sound (cut_right s c) = says_right s (sound c)
  sound (cut_many c) = says_many (sound c)
  sound (cut_same c) = says_same (sound c)
  sound (cut_stop s) = says_stop s
  sound (cut_more m s c d) = says_more s (sound c) (sound d)
