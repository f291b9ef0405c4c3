-- Where the pass stands: from a node to its parts, and from a part to what stands behind it.
use Rattle.std.proofs.Common.{◌≡◌, ℕ, ◌+◌, ◌<◌, ◌≤◌, Bool, true, false, ltb, List, [], ◌∷◌, length, drop, sym, refl, ap, subst, inl, inr, append-nil, zero-le, arith}
use Rattle.std.proofs.lemmas.Bool.{ltb-true, and_parts}
use Rattle.std.proofs.lemmas.List.{length-drop}
use Rattle.lens.specs.Forms.{Text, Form, many}
use Rattle.trees.specs.declared.nodes.Node.{Node}
use Rattle.trees.specs.declared.nodes.Node.TheVariants.{None, Empty, Seq, Or, Many, Same, Byte}
use Rattle.trees.specs.declared.tree.Tree.{Tree}
use Rattle.trees.specs.declared.scanned.Scanned.{Scanned}
use Rattle.trees.specs.Nodes.{node_at, EachPart, Under}
use Rattle.trees.specs.Tree.{Stack, Fits, fits_none, fits_more, Begins, at_root}
use Rattle.trees.specs.Rows.{Accepts}
use Rattle.trees.proofs.Begins.{fits_nil_complete, fits_cons_sound, begins_empty_complete, begins_seq_complete, begins_or_complete, one_not_empty}
use Rattle.trees.proofs.Stacks.{fits_seq_complete}
use Rattle.trees.proofs.Within.{at_grows, parts_of}
use Rattle.trees.proofs.Kept.{ready_of, stands_within}
use Rattle.marks.specs.Cut.{whole, inner, Cut}
use Rattle.trees.specs.Cells.{cell_of, begun_of, begun}
use Rattle.marks.specs.Passes.{Grown, Here, HereSeries}
use Rattle.marks.proofs.Sound.{Shape, shape_empty, shape_byte, shape_seq, shape_or, shape_many, shape_same, shape_of, Found, found_one, begins_true, begins_false, sound}

-- What begins, begins before the end of the text.
pub before_end : (n : ℕ) (text : Text) (starts : List ℕ) (i q : ℕ) → begun_of n text starts i q ≡ true → i < length text
before_end n text starts i q s = ltb-true i (length text) (and_parts (ltb i (length text)) (cell_of n starts i q) s).0

-- A text that is of the form of the whole tree
fits_whole : (tree : Tree) (text : Text) (grown : Grown tree) → Accepts tree text true → Fits (grown.form ∷ []) text
fits_whole tree text grown accepts =
    subst (Fits (grown.form ∷ [])) (append-nil text) (fits_more text [] ((accepts.tells grown.form grown.grows).0 refl) fits_none)

pub here_root : (scanned : Scanned) → Grown scanned.tree → Accepts scanned.tree scanned.text.now true → Here scanned scanned.tree.root 0
here_root scanned grown accepts =
    record { form = grown.form; stack = []; stands = at_root grown.grows; fits = fits_whole scanned.tree scanned.text.now grown accepts; within = zero-le }

module _ (scanned : Scanned) where
  abbrev tree : Tree
  tree = scanned.tree

  abbrev text : Text
  text = scanned.text.now

  abbrev words : List ℕ
  words = tree.words.now

  abbrev S : ℕ → ℕ → Bool
  S = begun scanned

  abbrev Stands : Node → Form → Stack → Type 0
  Stands = Shape words tree.root

  pub here_inside : {q i : ℕ} → Here scanned q i → q < tree.size
  here_inside here = (stands_within tree here.stands).1

  -- The parts of a node stand behind it, within the tree.
  pub here_under : {q i : ℕ} (made : Node) → Here scanned q i → made ≡ node_at words q → EachPart (Under tree.size words q) made
  here_under made here e = parts_of (ready_of tree.ready).linked made (here_inside here) (sym e)

  pub stands_here : {made : Node} {q i : ℕ} (here : Here scanned q i) → made ≡ node_at words q → Stands made here.form here.stack
  stands_here here e =
      subst (λ made. Stands made here.form here.stack) (sym e) (shape_of (at_grows here.stands) here.stands)

  pub begins_here : {q i : ℕ} (here : Here scanned q i) → S i q ≡ true → Begins here.form here.stack (drop i text)
  begins_here here s = begins_true scanned _ here.stands s

  -- Nothing begins where no node is, or an empty one.
  pub here_none : {q i : ℕ} → Here scanned q i → S i q ≡ true → None ≡ node_at words q → ⊥
  here_none here s e = never (stands_here here e)
    where
      never : {f : Form} {σ : Stack} → Stands None f σ → ⊥
      never stands = elim stands [ ]

  pub here_empty : {q i : ℕ} → Here scanned q i → S i q ≡ true → Empty ≡ node_at words q → ⊥
  here_empty {i = i} here s e = never (stands_here here e) (begins_here here s)
    where
      never : {f : Form} {σ : Stack} → Stands Empty f σ → Begins f σ (drop i text) → ⊥
      never shape_empty b = begins_empty_complete b

  pub here_byte : {b x q i : ℕ} → Here scanned q i → S i q ≡ true → Byte b x ≡ node_at words q → Here scanned x (i + 1)
  here_byte {b} {x} {q} {i} here s e = rest (stands_here here e) (begins_here here s)
    where
      rest : {f : Form} {σ : Stack} → Stands (Byte b x) f σ → Begins f σ (drop i text) → Here scanned x (i + 1)
      rest (shape_byte at) begin = elim (begins_seq_complete begin) [
        | inl first ↦
            let found = found_one i first in
            record { form = _; stack = _; stands = at; fits = found.rest; within = found.within }
        | inr none ↦ absurd (one_not_empty none.0)
      ]

  pub here_first : {x y q i : ℕ} → Here scanned q i → Seq x y ≡ node_at words q → Here scanned x i
  here_first {x} {y} {q} {i} here e = first (stands_here here e) here.fits
    where
      first : {f : Form} {σ : Stack} → Stands (Seq x y) f σ → Fits (f ∷ σ) (drop i text) → Here scanned x i
      first (shape_seq at at') fit = record { form = _; stack = _; stands = at; fits = fits_seq_complete fit; within = here.within }

  -- Behind the first part stands the second one.
  pub here_second : {M : ℕ → ℕ → Bool} {x y q i m : ℕ} → Here scanned q i → Seq x y ≡ node_at words q → Cut words S M (whole x) i m → Here scanned y m
  here_second {x = x} {y} {q} {i} {m} here e cut = second (stands_here here e) here.fits
    where
      second : {f : Form} {σ : Stack} → Stands (Seq x y) f σ → Fits (f ∷ σ) (drop i text) → Here scanned y m
      second (shape_seq at at') fit =
          let found = sound scanned cut _ _ at here.within (fits_seq_complete fit) in
          record { form = _; stack = _; stands = at'; fits = found.rest; within = found.within }

  pub here_left : {x y q i : ℕ} → Here scanned q i → Or x y ≡ node_at words q → S i x ≡ true → Here scanned x i
  here_left {x} {y} {q} {i} here e s = left (stands_here here e)
    where
      left : {f : Form} {σ : Stack} → Stands (Or x y) f σ → Here scanned x i
      left (shape_or at at') =
          record { form = _; stack = _; stands = at; fits = fits_cons_sound (inl (begins_true scanned i at s)); within = here.within }

  pub here_right : {x y q i : ℕ} → Here scanned q i → S i q ≡ true → Or x y ≡ node_at words q → S i x ≡ false → Here scanned y i
  here_right {x} {y} {q} {i} here s e t = right (stands_here here e) (begins_here here s)
    where
      right : {f : Form} {σ : Stack} → Stands (Or x y) f σ → Begins f σ (drop i text) → Here scanned y i
      right (shape_or at at') begin = elim (begins_or_complete begin) [
        | inl other ↦ absurd (begins_false scanned i at t other)
        | inr this ↦ record { form = _; stack = _; stands = at'; fits = fits_cons_sound (inl this); within = here.within }
      ]

  pub here_many : {x q i : ℕ} → Here scanned q i → Many x ≡ node_at words q → HereSeries scanned x i
  here_many {x} {q} {i} here e = parts (stands_here here e) here.fits
    where
      parts : {f : Form} {σ : Stack} → Stands (Many x) f σ → Fits (f ∷ σ) (drop i text) → HereSeries scanned x i
      parts (shape_many at) fit = record { form = _; stack = _; stands = at; fits = fit; within = here.within }

  pub here_same : {x q i : ℕ} → Here scanned q i → Same x ≡ node_at words q → Here scanned x i
  here_same {x} {q} {i} here e = same (stands_here here e) here.fits
    where
      same : {f : Form} {σ : Stack} → Stands (Same x) f σ → Fits (f ∷ σ) (drop i text) → Here scanned x i
      same (shape_same at) fit = record { form = _; stack = _; stands = at; fits = fit; within = here.within }

  -- What a part that is not empty is made of is not empty, and ends within the text.
  pub inner_ends : {M : ℕ → ℕ → Bool} {q i e : ℕ} → Here scanned q i → S i q ≡ true → Cut words S M (inner (node_at words q)) i e → (i < e) × (e ≤ length text)
  inner_ends here s cut =
      let begin = begins_here here s in
      let found = sound scanned cut _ _ (shape_of (at_grows here.stands) here.stands) here.within begin in
      (found.moves begin, found.within)

  -- One part more, and what stands behind it
  pub here_more : {x i : ℕ} → HereSeries scanned x i → S i x ≡ true → Here scanned x i
  here_more here s =
      record {
        form = here.form;
        stack = many here.form ∷ here.stack;
        stands = here.stands;
        fits = fits_cons_sound (inl (begins_true scanned _ here.stands s));
        within = here.within;
      }

  found_more : {M : ℕ → ℕ → Bool} {x i m : ℕ} (here : HereSeries scanned x i) → S i x ≡ true → Cut words S M (whole x) i m →
      Found text here.form (many here.form ∷ here.stack) i m
  unfolding here_more
  found_more here s cut = sound scanned cut _ _ here.stands here.within (here_more here s).fits

  pub more_moves : {M : ℕ → ℕ → Bool} {x i m : ℕ} → HereSeries scanned x i → S i x ≡ true → Cut words S M (whole x) i m → i < m
  more_moves here s cut = (found_more here s cut).moves (begins_true scanned _ here.stands s)

  pub here_behind : {M : ℕ → ℕ → Bool} {x i m : ℕ} → HereSeries scanned x i → S i x ≡ true → Cut words S M (whole x) i m → HereSeries scanned x m
  here_behind here s cut =
      let found = found_more here s cut in
      record { form = here.form; stack = here.stack; stands = here.stands; fits = found.rest; within = found.within }

  -- The part of the whole tree is the whole text.
  pub root_ends : {M : ℕ → ℕ → Bool} {e : ℕ} → Grown tree → Accepts tree text true → Cut words S M (whole tree.root) 0 e → e ≡ length text
  root_ends grown accepts cut =
      let found = sound scanned cut _ _ (at_root grown.grows) zero-le (fits_whole tree text grown accepts) in
      omega (arith, found.within, simp length-drop at (ap length (fits_nil_complete found.rest)))
