-- From a part of a form in a cut text to its parts, also where it is empty.
-- Not here: views (Descending).
use Rattle.std.proofs.Common.{◌≡◌, ℕ, ◌<◌, true, false, ◌⊎◌, List, [], ◌∷◌, drop, sym, refl, subst, inl, inr, arith}
use Rattle.std.proofs.lemmas.Bool.{cases_Bool}
use Rattle.lens.specs.Forms.{Text, Form, seq, or, many, Matches}
use Rattle.trees.specs.declared.nodes.Node.TheVariants.{Seq, Or, Many}
use Rattle.trees.specs.declared.scanned.Scanned.{Scanned}
use Rattle.trees.specs.Nodes.{node_at}
use Rattle.trees.specs.Tree.{Stack, Grows, Fits, Begins, At, at_first, at_second, at_left, at_right, at_many}
use Rattle.trees.proofs.Begins.{fits_cons_sound, fits_cons_complete, or_empty_complete, begins_or_complete}
use Rattle.trees.proofs.Stacks.{fits_seq_complete}
use Rattle.marks.specs.Cut.{cut_none}
use Rattle.trees.specs.Cells.{begun}
use Rattle.marks.specs.Tables.{Part}
use Rattle.marks.specs.Passes.{Here, HereSeries, Piece}
use Rattle.marks.proofs.Ends.{part_empty}
use Rattle.marks.proofs.Sound.{begins_true, begins_false, sound}
use Rattle.marks.proofs.Places.{more_moves}
use Rattle.marks.proofs.Parts.{piece_of, part_sound, seq_parts, left_part, right_part, many_parts, series_more, series_done}
use Rattle.walk.specs.Walks.{Holds, HeldSeries, Chooses}

-- A part of the node at q, of the form f, from i to e.
pub record Held (scanned : Scanned) (marks : List ℕ) (f : Form) (q i e : ℕ) : Type 0 where
  pub holds : Holds scanned f q i
  pub part : Part scanned marks q i e

-- What stands behind an empty part: the text fits the stack, and one of the two forms has the empty text.
behind_empty : {f g : Form} {σ : Stack} {t : Text} → Fits (or f g ∷ σ) t → (Begins f σ t → ⊥) → (Begins g σ t → ⊥) →
    Matches (or f g) [] × Fits σ t
behind_empty fit no_f no_g = elim (fits_cons_complete fit) [
  | inl begin ↦ absurd (elim (begins_or_complete begin) [ inl c ↦ no_f c | inr c ↦ no_g c ])
  | inr rest ↦ rest
]

-- The left side doesn't begin, so if the right one doesn't either, that has the empty text.
right_fits : {f g : Form} {σ : Stack} {t : Text} → Fits (or f g ∷ σ) t → (Begins f σ t → ⊥) →
    Begins g σ t ⊎ (Matches f [] → ⊥) → Fits (g ∷ σ) t
right_fits fit no_f (inl begin) = fits_cons_sound (inl begin)
right_fits fit no_f (inr not_null) = elim (fits_cons_complete fit) [
  | inl begin ↦ elim (begins_or_complete begin) [ inl c ↦ absurd (no_f c) | inr c ↦ fits_cons_sound (inl c) ]
  | inr rest ↦ elim (or_empty_complete rest.0) [ inl m ↦ absurd (not_null m) | inr m ↦ fits_cons_sound (inr (m, rest.1)) ]
]

abbrev words : Scanned → List ℕ
words scanned = scanned.tree.words.now

not_begun : (scanned : Scanned) (i : ℕ) {q : ℕ} {f : Form} {σ : Stack} → At (words scanned) scanned.tree.root q f σ → (Begins f σ (drop i scanned.text.now) → ⊥) → begun scanned i q ≡ false
not_begun scanned i at none = elim (cases_Bool (begun scanned i _)) [
  | inl s ↦ absurd (none (begins_true scanned i at s))
  | inr s ↦ s
]

module _ {scanned : Scanned} where
  here : {marks : List ℕ} {f : Form} {q i e : ℕ} → Held scanned marks f q i e → Here scanned q i
  here h = record { form = _; stack = h.holds.stack; stands = h.holds.stands; fits = h.holds.fits; within = h.holds.within }

  pub piece : {marks : List ℕ} {f : Form} {q i e : ℕ} (h : Held scanned marks f q i e) → Piece scanned.text.now f h.holds.stack i e
  piece h = part_sound scanned h.holds.stands h.holds.within h.holds.fits h.part

  -- One part after the other
  pub hold_seq : {marks : List ℕ} {f g : Form} {q x y i e : ℕ} → node_at (words scanned) q ≡ Seq x y → Grows (words scanned) x f → Grows (words scanned) y g →
      Held scanned marks (seq f g) q i e → (m : ℕ) × Held scanned marks f x i m × Held scanned marks g y m e
  hold_seq {q = q} {x} {y} is a b h =
      let (m, first, second) = seq_parts scanned (here h) (sym is) h.part in
      let at = at_first q x y is a b h.holds.stands in
      let fit = fits_seq_complete h.holds.fits in
      let found = part_sound scanned at h.holds.within fit first in (
        m,
        record { holds = record { stack = _; stands = at; fits = fit; within = h.holds.within }; part = first },
        record { holds = record { stack = _; stands = at_second q x y is a b h.holds.stands; fits = found.rest; within = found.within }; part = second },
      )

  -- One or the other
  module _ {f g : Form} {q x y : ℕ} (is : node_at (words scanned) q ≡ Or x y) (a : Grows (words scanned) x f) (b : Grows (words scanned) y g) where
    begun_left : {marks : List ℕ} {i e : ℕ} → Held scanned marks (or f g) q i e → begun scanned i x ≡ true → Held scanned marks f x i e
    begun_left {i = i} h s =
        let at = at_left q x y is a b h.holds.stands in
        record {
          holds = record { stack = _; stands = at; fits = fits_cons_sound (inl (begins_true scanned i at s)); within = h.holds.within };
          part = left_part scanned (here h) (sym is) h.part s;
        }

    -- The empty text is of the left side, and none begins: both parts are empty.
    empty_left : {marks : List ℕ} {i e : ℕ} (h : Held scanned marks (or f g) q i e) → begun scanned i x ≡ false → Matches f [] →
        (Begins g h.holds.stack (drop i scanned.text.now) → ⊥) → Held scanned marks f x i e
    empty_left {marks} {i} {e} h s m no_g =
        let at = at_left q x y is a b h.holds.stands in
        let fit = (behind_empty h.holds.fits (begins_false scanned i at s) no_g).1 in
        let right = right_part scanned (here h) (sym is) h.part s in
        let none = not_begun scanned i (at_right q x y is a b h.holds.stands) no_g in
        record {
          holds = record { stack = _; stands = at; fits = fits_cons_sound (inr (m, fit)); within = h.holds.within };
          part = subst (λ e. Part scanned marks x i e) (part_empty right none) (cut_none s);
        }

    pub hold_left : {marks : List ℕ} {i e : ℕ} → Chooses scanned x y i true → Held scanned marks (or f g) q i e → Held scanned marks f x i e
    hold_left {i = i} chosen h =
        let at = at_left q x y is a b h.holds.stands in
        elim (cases_Bool (begun scanned i x)) [
          | inl s ↦ begun_left h s
          | inr s ↦ elim (chosen.left refl f g _ at (at_right q x y is a b h.holds.stands)) [
            | inl begin ↦ absurd (begins_false scanned i at s begin)
            | inr empty ↦ empty_left h s empty.0 empty.1
          ]
        ]

    pub hold_right : {marks : List ℕ} {i e : ℕ} → Chooses scanned x y i false → Held scanned marks (or f g) q i e → Held scanned marks g y i e
    hold_right {i = i} chosen h =
        let at = at_left q x y is a b h.holds.stands in
        let at' = at_right q x y is a b h.holds.stands in
        let (no_f, why) = chosen.right refl f g _ at at' in
        record {
          holds = record { stack = _; stands = at'; fits = right_fits h.holds.fits no_f why; within = h.holds.within };
          part = right_part scanned (here h) (sym is) h.part (not_begun scanned i at no_f);
        }

  -- Any number of parts
  pub hold_many : {marks : List ℕ} {f : Form} {q x i e : ℕ} → node_at (words scanned) q ≡ Many x → Grows (words scanned) x f →
      Held scanned marks (many f) q i e → HeldSeries scanned marks f x i e
  hold_many {q = q} {x} is a h =
      record {
        stack = h.holds.stack;
        stands = at_many q x is a h.holds.stands;
        fits = h.holds.fits;
        within = h.holds.within;
        cut = many_parts scanned (here h) (sym is) h.part;
      }

  -- The first of them, and then the others; it is not empty.
  module _ {marks : List ℕ} {f : Form} {x i e : ℕ} (h : HeldSeries scanned marks f x i e) where
    here_parts : HereSeries scanned x i
    here_parts = record { form = f; stack = h.stack; stands = h.stands; fits = h.fits; within = h.within }

    -- All of them are a part of the text.
    pub series_piece : Piece scanned.text.now (many f) h.stack i e
    series_piece = piece_of (sound scanned h.cut f h.stack h.stands h.within h.fits)

    first_begins : i < e → begun scanned i x ≡ true
    first_begins more = elim (cases_Bool (begun scanned i x)) [
      | inl s ↦ s
      | inr s ↦ let done = series_done h.cut s in absurd (omega arith)
    ]

    pub hold_first : i < e → (m : ℕ) × Held scanned marks f x i m × HeldSeries scanned marks f x m e × (i < m)
    hold_first more =
        let s = first_begins more in
        let (m, first, rest) = series_more h.cut s in
        let fit = fits_cons_sound (inl (begins_true scanned i h.stands s)) in
        let found = part_sound scanned h.stands h.within fit first in (
          m,
          record { holds = record { stack = _; stands = h.stands; fits = fit; within = h.within }; part = first },
          record { stack = h.stack; stands = h.stands; fits = found.rest; within = found.within; cut = rest },
          more_moves scanned here_parts s first,
        )
