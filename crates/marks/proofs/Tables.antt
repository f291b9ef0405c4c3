-- The rows of bits: what becomes of them when a mark is made, or all are cleared.
use Rattle.std.proofs.Common.{◌≡◌, ℕ, ◌+◌, ◌*◌, ◌<◌, Bool, true, false, ◌&&◌, ltb, ◌≢◌, ◌⊎◌, List, refl, ap, ◌∙◌, inl, inr, arith}
use Rattle.std.proofs.lemmas.Bool.{cases_eq, cases_lt, ltb-true, and_right}
use Rattle.bits.specs.Bits.{bit, Puts, Clears}
use Rattle.trees.specs.declared.tree.Tree.{Tree}
use Rattle.trees.specs.Cells.{cell}
use Rattle.trees.proofs.Tables.{row_within, cell_is}
use Rattle.marks.specs.Passes.{Adds, Fresh}

-- Two cells are two bits.
rows_apart : (i j size p q : ℕ) → p < size → q < size → j ≢ i → j * size + p ≢ i * size + q
rows_apart i j size p q inside inside' other = λ e. elim (cases_lt j i) [
  | inl low ↦ omega (arith, row_within j i size low)
  | inr high ↦ omega (arith, row_within i j size (omega (arith, other)))
]

apart_from : (i j size p q : ℕ) → p < size → q < size → (j ≢ i) ⊎ (p ≢ q) → j * size + p ≢ i * size + q
apart_from i j size p q inside inside' (inl other) = rows_apart i j size p q inside inside' other
apart_from i j size p q inside inside' (inr other) = λ e. elim (cases_eq j i) [
  | inl same ↦ other (omega (arith, ap (λ k. k * size) same))
  | inr differ ↦ rows_apart i j size p q inside inside' differ e
]

and_same : (b x y : Bool) → (b ≡ true → x ≡ y) → (b && x) ≡ (b && y)
and_same true x y h = h refl
and_same false x y h = refl

module _ (tree : Tree) where
  pub adds : {old new : List ℕ} {i q : ℕ} → q < tree.size → Puts old (i * tree.size + q) true new → Adds (cell tree old) (cell tree new) i q
  adds {old} {new} {i} {q} inside puts = record {
    here = cell_is tree new i q inside ∙ puts.here;
    others = λ j p other. and_same (ltb p tree.size) _ _ (λ e. puts.others _ (apart_from i j tree.size p q (ltb-true p tree.size e) inside other));
  }

  pub cleared : {old new : List ℕ} → Clears old new → Fresh (cell tree new) 0
  cleared clears = record { none = λ j p l. and_right _ _ (clears.none _) }
