-- The rows of a text: the loop over its places, and what the first row says of the whole text.
use Rattle.std.proofs.Common.{◌≡◌, ℕ, ◌+◌, ◌*◌, ◌<◌, ◌≤◌, Bool, true, false, ◌&&◌, ◌≢◌, ◌⊎◌, eqb, refl, List, [], ◌∷◌, length, get_or, drop, Decides, sym, ap, ◌∙◌, subst, inl, inr, zero-le, le_refl, add-mul, one-mul, zero-add, zero-mul, arith}
use Rattle.std.proofs.lemmas.Nat.{mul-le}
use Rattle.std.proofs.lemmas.Bool.Decides.{Decides-at, Decides-like, Decides-eqb}
use Rattle.std.proofs.lemmas.Bool.{cases_eq, cases_lt, eq-eqb, ne_eqb, lt-ltb, le-ltb, and_left}
use Rattle.std.proofs.lemmas.List.{drop_more, drop_all, length-drop}
use borrow.Author.Tests.{clash}
use Rattle.lens.specs.Forms.{Text, Form, Matches}
use Rattle.bits.specs.Bits.{bit}
use Rattle.trees.specs.declared.tree.Tree.{Tree}
use Rattle.trees.specs.declared.step.Spot.{Spot}
use Rattle.trees.specs.declared.scanned.Scanned.{Scanned}
use Rattle.trees.specs.Tree.{Stack, Begins, At, at_root}
use Rattle.trees.specs.Cells.{cell, begun}
use Rattle.trees.specs.Rows.{Starts, Behind, Steps, Tabled, BeginsAt, Accepts, row_at, row_behind}
use Rattle.trees.proofs.Decisions.{decides_false}
use Rattle.trees.proofs.Kept.{ready_of, stands_within, tabled_of}
use Rattle.trees.proofs.Begins.{Some, begins_end, begins_whole_sound, begins_whole_complete}

-- The row of the place i ends where the next one begins, and within what n rows take.
pub row_end : (i size : ℕ) → (i + 1) * size ≡ i * size + size
row_end i size = rw (add-mul, one-mul)

pub row_within : (i n size : ℕ) → i < n → i * size + size ≤ n * size
row_within i n size l = omega (arith, row_end i size, mul-le (i + 1) size n size (omega arith) (le_refl size))

-- The text ends behind its last place.
ends_behind : (text : Text) (i : ℕ) → i < length text → Decides (eqb (i + 1) (length text)) (drop (i + 1) text ≡ [])
ends_behind text i l =
    Decides-like _ (λ e. drop_all (i + 1) text (omega arith)) (λ e. omega (arith, simp length-drop at (ap length e)))
    (Decides-eqb (i + 1) (length text))

module _ (tree : Tree) where
  starts_at : {row row' : ℕ → Bool} {t : Text} → ((q : ℕ) → row' q ≡ row q) → Starts tree row 0 t → Starts tree row' 0 t
  starts_at same starts = record { tells = λ q f σ low at. Decides-at _ _ (same q) (starts.tells q f σ low at) }

  starts_end : {row : ℕ → Bool} {t : Text} → t ≡ [] → ((q : ℕ) → row q ≡ false) → Starts tree row 0 t
  starts_end e none = record { tells = λ q f σ low at. Decides-at _ _ (none q) (decides_false (begins_end e)) }

  pub tabled_none : (bits : List ℕ) (text : Text) → Tabled tree bits text (length text)
  tabled_none bits text = record { rows = λ i low l. absurd (omega arith) }

  pub tabled_all : {p : ℕ} {bits : List ℕ} {text : Text} → p ≤ 0 → Tabled tree bits text p → Tabled tree bits text 0
  tabled_all none tabled = record { rows = λ i low l. tabled.rows i (omega arith) l }

-- A table from the place i on, by one from the next place on and the step of the spot of i.
module _ (spot : Spot) (i : ℕ) (text : Text) (row : spot.row ≡ i * spot.tree.size) (last : spot.last ≡ eqb (i + 1) (length text)) where
  pub behind_tabled : {p : ℕ} {bits : List ℕ} → p ≤ i + 1 → i < length text → Tabled spot.tree bits text p →
      Behind bits spot (drop (i + 1) text)
  behind_tabled {p} {bits} next l tabled = record { starts = starts; ends = Decides-at _ _ last (ends_behind text i l) }
    where
      none : i + 1 ≡ length text → (q : ℕ) → row_behind bits spot q ≡ false
      none end q = rw (last, eq-eqb (i + 1) (length text) end)

      there : i + 1 ≢ length text → (q : ℕ) → row_behind bits spot q ≡ row_at bits ((i + 1) * spot.tree.size) q
      there more q =
          rw (last, ne_eqb (i + 1) (length text) more)
          (ap (λ k. bit bits (k + q)) (ap (λ r. r + spot.tree.size) row ∙ sym (row_end i spot.tree.size)))

      starts : Starts spot.tree (row_behind bits spot) 0 (drop (i + 1) text)
      starts =
          elim (cases_eq (i + 1) (length text)) [
            | inl end ↦ starts_end spot.tree ((ends_behind text i l).0 (eq-eqb _ _ end)) (none end)
            | inr more ↦ starts_at spot.tree (there more) (tabled.rows (i + 1) next (omega arith))
          ]

  pub tabled_more : {p : ℕ} {old new : List ℕ} → spot.byte ≡ get_or text i 0 → p ≤ i + 1 → i < length text → Tabled spot.tree old text p →
      Steps spot old new 0 → Tabled spot.tree new text i
  tabled_more {p} {old} {new} byte next l tabled steps = record { rows = rows }
    where
      here : Starts spot.tree (row_at new (i * spot.tree.size)) 0 (drop i text)
      here =
          subst (Starts spot.tree (row_at new (i * spot.tree.size)) 0) (ap (λ b. b ∷ drop (i + 1) text) byte ∙ sym (drop_more text i 0 l))
          (starts_at spot.tree (λ q. ap (λ r. bit new (r + q)) (sym row)) (steps.tells (drop (i + 1) text) (behind_tabled next l tabled)))

      rows : (j : ℕ) → i ≤ j → j < length text → Starts spot.tree (row_at new (j * spot.tree.size)) 0 (drop j text)
      rows j low m =
          elim (cases_eq j i) [
            | inl same ↦ subst (λ j. Starts spot.tree (row_at new (j * spot.tree.size)) 0 (drop j text)) (sym same) here
            | inr other ↦
                starts_at spot.tree (λ q. steps.kept _ (omega (arith, row, row_within i j spot.tree.size (omega arith))))
                (tabled.rows j (omega arith) m)
          ]

-- What the table of a text says of a node and a place

and_true : (b x : Bool) → b ≡ true → (b && x) ≡ x
and_true true x e = refl
and_true false x e = absurd (clash e)

-- The cell of a node that stands in the tree is its bit.
pub cell_is : (tree : Tree) (bits : List ℕ) (i q : ℕ) → q < tree.size → cell tree bits i q ≡ bit bits (i * tree.size + q)
cell_is tree bits i q inside = and_true _ _ (lt-ltb q tree.size inside)

pub begun_tells : (scanned : Scanned) (i : ℕ) {q : ℕ} {f : Form} {σ : Stack} → At scanned.tree.words.now scanned.tree.root q f σ →
    Decides (begun scanned i q) (Begins f σ (drop i scanned.text.now))
begun_tells scanned i {q} at = elim (cases_lt i (length scanned.text.now)) [
  | inr past ↦
      Decides-at _ _ (and_left _ _ (le-ltb i (length scanned.text.now) past)) (decides_false (begins_end (drop_all i scanned.text.now past)))
  | inl before ↦
      Decides-at _ _
      (and_true _ _ (lt-ltb i (length scanned.text.now) before) ∙ cell_is scanned.tree scanned.starts.now i q (stands_within scanned.tree at).1)
      (((tabled_of scanned).rows i zero-le before).tells q _ _ zero-le at)
]

pub begins_begun : (scanned : Scanned) {i q : ℕ} {r : Bool} → r ≡ begun scanned i q → BeginsAt scanned.tree scanned.text.now i q r
begins_begun scanned {i} is = record { tells = λ f σ at. Decides-at _ _ is (begun_tells scanned i at) }

-- What it says of the whole text
module _ (tree : Tree) {text : Text} {r : Bool} where
  pub accepts_empty : text ≡ [] → r ≡ bit tree.null.now tree.root → Accepts tree text r
  accepts_empty e is = record {
    tells = λ f a.
        let ready = ready_of tree.ready in
        subst (λ u. Decides r (Matches f u)) (sym e) (Decides-at _ _ is (ready.nulls.tells tree.root f zero-le ready.inside a));
  }

  pub accepts_some : {starts : List ℕ} → Tabled tree starts text 0 → 0 < length text → r ≡ bit starts tree.root → Accepts tree text r
  accepts_some {starts} tabled l is = record {
    tells = λ f a.
        Decides-like r begins_whole_sound (begins_whole_complete text (some text l))
        (Decides-at _ _ (is ∙ ap (bit starts) first) ((tabled.rows 0 zero-le l).tells _ _ _ zero-le (at_root a)));
  }
    where
      first : tree.root ≡ 0 * tree.size + tree.root
      first = rw (zero-mul, zero-add)

      some : (u : Text) → 0 < length u → Some u
      some [] l = absurd (omega arith)
      some (c ∷ u) l = tt
