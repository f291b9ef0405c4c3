-- What a reader of the marks goes by: what a part is, and from a part to its parts, also where it is empty.
use Rattle.std.proofs.Common.{◌≡◌, ℕ, ◌-◌, ◌≤◌, Bool, true, false, List, [], ◌∷◌, ◌++◌, length, take, drop, sym, refl, ap, ◌∙◌, subst, inl, inr, arith}
use Rattle.std.proofs.lemmas.Bool.{cases_Bool, both_ways}
use Rattle.std.proofs.lemmas.List.{take-append-le, take_all}
use Rattle.lens.specs.Forms.{Text, Form, Matches}
use Rattle.trees.specs.declared.nodes.Node.{Node}
use Rattle.trees.specs.declared.nodes.Node.TheVariants.{Seq, Or, Many}
use Rattle.trees.specs.declared.tree.Tree.{Tree}
use Rattle.trees.specs.declared.scanned.Scanned.{Scanned}
use Rattle.trees.specs.Nodes.{node_at}
use Rattle.trees.specs.Tree.{Stack, Fits, Begins, At}
use Rattle.trees.proofs.Begins.{fits_cons_complete, seq_empty_complete, begins_seq_sound, begins_or_sound, begins_many_sound}
use Rattle.marks.specs.Cut.{whole, inner, series, Cut, cut_none, cut_some, cut_seq, cut_left, cut_right, cut_many, cut_stop, cut_more}
use Rattle.trees.specs.Cells.{begun}
use Rattle.marks.specs.Passes.{Here, Piece}
use Rattle.marks.proofs.Sound.{Shape, shape_seq, shape_or, shape_many, Found, begins_true, begins_false, sound}
use Rattle.marks.proofs.Places.{stands_here}

take_first : (n : ℕ) (u v : Text) → n ≡ length u → take n (u ++ v) ≡ u
take_first n u v e = take-append-le n u v (omega arith) ∙ take_all n u (omega arith)

pub piece_of : {text : Text} {f : Form} {σ : Stack} {i e : ℕ} → Found text f σ i e → Piece text f σ i e
piece_of {text} {f} {σ} {i} {e} found =
    record {
      ordered = omega (arith, found.long);
      within = found.within;
      matches =
          subst (Matches f)
          (sym (ap (take (e - i)) found.is ∙ take_first (e - i) found.piece (drop e text) (omega (arith, found.long))))
          found.matches;
      rest = found.rest;
    }

-- Any number of parts: another one, or no more
module _ {words : List ℕ} {S M : ℕ → ℕ → Bool} where
  pub series_more : {x i e : ℕ} → Cut words S M (series x) i e → S i x ≡ true → (m : ℕ) × Cut words S M (whole x) i m × Cut words S M (series x) m e
  series_more (cut_stop s) t = absurd (both_ways _ s t)
  series_more (cut_more m s c d) t = (m, c, d)

  pub series_done : {x i e : ℕ} → Cut words S M (series x) i e → S i x ≡ false → i ≡ e
  series_done (cut_stop s) t = refl
  series_done (cut_more m s c d) t = absurd (both_ways _ t s)

module _ (scanned : Scanned) where
  abbrev tree : Tree
  tree = scanned.tree

  abbrev text : Text
  text = scanned.text.now

  abbrev words : List ℕ
  words = tree.words.now

  abbrev S : ℕ → ℕ → Bool
  S = begun scanned

  -- A part is of its form, and what stands behind it fits.
  pub part_sound : {M : ℕ → ℕ → Bool} {q i e : ℕ} {f : Form} {σ : Stack} → At words tree.root q f σ → i ≤ length text →
      Fits (f ∷ σ) (drop i text) → Cut words S M (whole q) i e → Piece text f σ i e
  part_sound at l fit cut = piece_of (sound scanned cut _ _ at l fit)

  begun_false : (i : ℕ) {q : ℕ} {f : Form} {σ : Stack} → At words tree.root q f σ → (Begins f σ (drop i text) → ⊥) → S i q ≡ false
  begun_false i at none = elim (cases_Bool (S i _)) [
    | inl s ↦ absurd (none (begins_true scanned i at s))
    | inr s ↦ s
  ]

  -- An empty part: no other one begins there, and the empty text is of its form.
  empty_here : {q i : ℕ} (here : Here scanned q i) → S i q ≡ false → (Begins here.form here.stack (drop i text) → ⊥) × Matches here.form []
  empty_here {q} {i} here s =
      let none = begins_false scanned i here.stands s in
      (none, elim (fits_cons_complete here.fits) [ inl b ↦ absurd (none b) | inr h ↦ h.0 ])

  -- From a part to what it is made of. By cases: of a part that is not empty, and of an empty one.
  by_node : {M : ℕ → ℕ → Bool} {q i e : ℕ} (made : Node) (P : ℕ → Type 0) → made ≡ node_at words q → Cut words S M (whole q) i e →
      (Cut words S M (inner made) i e → P e) → (S i q ≡ false → P i) → P e
  by_node made P is (cut_none s) full none = none s
  by_node {M} made P is (cut_some {i = i} {e} s c m) full none = full (subst (λ made. Cut words S M (inner made) i e) (sym is) c)

  abbrev Both : (M : ℕ → ℕ → Bool) (x y i e : ℕ) → Type 0
  Both M x y i e = (m : ℕ) × Cut words S M (whole x) i m × Cut words S M (whole y) m e

  pub seq_parts : {M : ℕ → ℕ → Bool} {x y q i e : ℕ} → Here scanned q i → Seq x y ≡ node_at words q → Cut words S M (whole q) i e → Both M x y i e
  seq_parts {M} {x} {y} {q} {i} here is cut = by_node (Seq x y) (Both M x y i) is cut full none
    where
      full : {e : ℕ} → Cut words S M (inner (Seq x y)) i e → Both M x y i e
      full (cut_seq m c d) = (m, c, d)

      empties : {f : Form} {σ : Stack} → Shape words tree.root (Seq x y) f σ → (Begins f σ (drop i text) → ⊥) → Matches f [] → Both M x y i i
      empties (shape_seq at at') none m = (
        i,
        cut_none (begun_false i at (λ b. none (begins_seq_sound (inl b)))),
        cut_none (begun_false i at' (λ b. none (begins_seq_sound (inr ((seq_empty_complete m).0, b))))),
      )

      none : S i q ≡ false → Both M x y i i
      none s = let h = empty_here here s in empties (stands_here scanned here is) h.0 h.1

  -- Where neither side begins, both are empty.
  or_empty : {M : ℕ → ℕ → Bool} {x y q i : ℕ} → Here scanned q i → Or x y ≡ node_at words q → S i q ≡ false →
      Cut words S M (whole x) i i × Cut words S M (whole y) i i
  or_empty {M} {x} {y} {q} {i} here is s = empties (stands_here scanned here is) (empty_here here s).0
    where
      empties : {f : Form} {σ : Stack} → Shape words tree.root (Or x y) f σ → (Begins f σ (drop i text) → ⊥) →
          Cut words S M (whole x) i i × Cut words S M (whole y) i i
      empties (shape_or at at') none =
          (cut_none (begun_false i at (λ b. none (begins_or_sound (inl b)))), cut_none (begun_false i at' (λ b. none (begins_or_sound (inr b)))))

  pub left_part : {M : ℕ → ℕ → Bool} {x y q i e : ℕ} → Here scanned q i → Or x y ≡ node_at words q → Cut words S M (whole q) i e →
      S i x ≡ true → Cut words S M (whole x) i e
  left_part {M} {x} {y} {q} {i} here is cut s = by_node (Or x y) (λ e. Cut words S M (whole x) i e) is cut full (λ t. (or_empty here is t).0)
    where
      full : {e : ℕ} → Cut words S M (inner (Or x y)) i e → Cut words S M (whole x) i e
      full (cut_left t c) = c
      full (cut_right t c) = absurd (both_ways _ t s)

  pub right_part : {M : ℕ → ℕ → Bool} {x y q i e : ℕ} → Here scanned q i → Or x y ≡ node_at words q → Cut words S M (whole q) i e →
      S i x ≡ false → Cut words S M (whole y) i e
  right_part {M} {x} {y} {q} {i} here is cut s = by_node (Or x y) (λ e. Cut words S M (whole y) i e) is cut full (λ t. (or_empty here is t).1)
    where
      full : {e : ℕ} → Cut words S M (inner (Or x y)) i e → Cut words S M (whole y) i e
      full (cut_left t c) = absurd (both_ways _ s t)
      full (cut_right t c) = c

  pub many_parts : {M : ℕ → ℕ → Bool} {x q i e : ℕ} → Here scanned q i → Many x ≡ node_at words q → Cut words S M (whole q) i e → Cut words S M (series x) i e
  many_parts {M} {x} {q} {i} here is cut = by_node (Many x) (λ e. Cut words S M (series x) i e) is cut full none
    where
      full : {e : ℕ} → Cut words S M (inner (Many x)) i e → Cut words S M (series x) i e
      full (cut_many c) = c

      empties : {f : Form} {σ : Stack} → Shape words tree.root (Many x) f σ → (Begins f σ (drop i text) → ⊥) → Cut words S M (series x) i i
      empties (shape_many at) none = cut_stop (begun_false i at (λ b. none (begins_many_sound b)))

      none : S i q ≡ false → Cut words S M (series x) i i
      none s = empties (stands_here scanned here is) (empty_here here s).0
