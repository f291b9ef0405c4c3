-- Each kind of node of a form and of a view, and the whole row.
use Rattle.std.proofs.lemmas.List.{get_or_append_left}
use Rattle.std.proofs.Common.{◌≡◌, ℕ, ◌+◌, ◌*◌, ◌<◌, ◌≤◌, List, ◌++◌, length, slice_index, sym, refl, ap, ◌∙◌, subst, append-nil, arith}
use lib.Seq.{drop-length}
use Rattle.lens.specs.Forms.{Form, empty, one}
use Rattle.lens.specs.Views.{View}
use Rattle.rows.specs.Rows.{form_row, view_row, FormFine, ViewFine, Encodes}
use Rattle.rows.specs.Stands.{Stands, Heads}
use Rattle.rows.specs.Nodes.{Tagged}
use Rattle.rows.proofs.Tags.{builds_seq, builds_or, builds_many, builds_copy, builds_then, builds_swap, builds_either, builds_each}
use Rattle.rows.proofs.Unique.{splits_form, splits_view}
use Rattle.clear.specs.declared.side.Side.{Side}
use Rattle.clear.specs.declared.side.Side.TheVariants.{Source, Look}
use Rattle.clear.specs.Filled.{Laid}
use Rattle.clear.proofs.Laying.{laid_heads}
use Rattle.clear.proofs.Lengths.{form_long, view_long}
use Rattle.trees.specs.declared.nodes.Node.{Node}
use Rattle.trees.specs.declared.nodes.Node.TheVariants.{Empty, One, Seq, Or, Many, Same}
use Rattle.trees.specs.Nodes.{node_of, node_at, Changed}
use Rattle.trees.specs.Tree.{Grows, grows_empty, grows_one, grows_seq, grows_or, grows_many}
use Rattle.grow.specs.Grown.{Bare, LinkedAt, Rooted, Grown, FormGrows, ViewGrows, TreeOf, swapped}
use Rattle.grow.specs.Planted.{Planted, planted_copy, planted_then, planted_swap, planted_turned, planted_either, planted_each}
use Rattle.grow.proofs.Planting.{planted_grows}
use Rattle.grow.proofs.Growing.{linked_made, grown_leaf, joins_seq, joins_turned, joins_or, wraps_same, wraps_many}
use Rattle.grow.proofs.Parts.{two_grow, one_grows}

-- Forms
leaf_grows : {s : List ℕ} {at top : ℕ} {t t' : List ℕ} (f : Form) (made : Node) → ((words : List ℕ) → node_at words at ≡ made → Grows words at f × LinkedAt (length s) words at) → Heads s at (form_row f) → Changed t t' at made top → FormGrows s at top t t'
leaf_grows {s} {at} {top} {t} {t'} f made leaf h c = record {
  grown = λ g e l bare. subst (λ z. Grown (length s) t t' at e top (λ words q. Grows words q z)) (sym (laid_heads f (splits_form f) h l).0) (grown_leaf made leaf c bare l.less);
}

pub form_empty : {s : List ℕ} {at top : ℕ} {t t' : List ℕ} → Heads s at (form_row empty) → Changed t t' at Empty top → FormGrows s at top t t'
form_empty = leaf_grows empty Empty (λ words is. (grows_empty is, linked_made Empty is tt (λ x y e. let z : ◌≡◌ {A = ℕ} 0 1 = cc in absurd (omega arith))))

pub form_one : {s : List ℕ} {at top a b : ℕ} {t t' : List ℕ} → Heads s at (form_row (one a b)) → Changed t t' at (One a b) top → FormGrows s at top t t'
form_one {a = a} {b = b} = leaf_grows (one a b) (One a b) (λ words is. (grows_one is, linked_made (One a b) is tt (λ x y e. let z : ◌≡◌ {A = ℕ} 0 1 = cc in absurd (omega arith))))

module _ {s : List ℕ} {at i top : ℕ} {t₀ t₁ t₂ : List ℕ} where
  pub form_seq : {m : ℕ} {t₃ : List ℕ} → Tagged s at 2 i → Stands form_row FormFine s i m → Changed t₀ t₁ at (Seq i m) top → FormGrows s i at t₁ t₂ → FormGrows s m at t₂ t₃ → FormGrows s at top t₀ t₃
  form_seq = two_grow splits_form form_long builds_seq joins_seq (λ t q m f g m_is here a b. grows_seq (q + 1) m here a b)

  pub form_or : {m : ℕ} {t₃ : List ℕ} → Tagged s at 3 i → Stands form_row FormFine s i m → Changed t₀ t₁ at (Or i m) top → FormGrows s i at t₁ t₂ → FormGrows s m at t₂ t₃ → FormGrows s at top t₀ t₃
  form_or = two_grow splits_form form_long builds_or joins_or (λ t q m f g m_is here a b. grows_or (q + 1) m here a b)

  pub form_many : Tagged s at 4 i → Changed t₀ t₁ at (Many i) top → FormGrows s i at t₁ t₂ → FormGrows s at top t₀ t₂
  form_many = one_grows form_long builds_many wraps_many (λ t q f here a. grows_many (q + 1) here a)

-- Views
module _ (side : Side) {s : List ℕ} {at i top : ℕ} {t₀ t₁ t₂ : List ℕ} where
  pub view_copy : Tagged s at 10 i → Changed t₀ t₁ at (Same i) top → FormGrows s i at t₁ t₂ → ViewGrows side s at top t₀ t₂
  view_copy = one_grows form_long builds_copy wraps_same (λ t q f here a. planted_copy here a)

  pub view_then : {m : ℕ} {t₃ : List ℕ} → Tagged s at 12 i → Stands view_row ViewFine s i m → Changed t₀ t₁ at (Seq i m) top → ViewGrows side s i at t₁ t₂ → ViewGrows side s m at t₂ t₃ → ViewGrows side s at top t₀ t₃
  view_then = two_grow splits_view view_long builds_then joins_seq (λ t q m k l m_is here a b. planted_then m m_is here a b)

  pub view_either : {m : ℕ} {t₃ : List ℕ} → Tagged s at 14 i → Stands view_row ViewFine s i m → Changed t₀ t₁ at (Or i m) top → ViewGrows side s i at t₁ t₂ → ViewGrows side s m at t₂ t₃ → ViewGrows side s at top t₀ t₃
  view_either = two_grow splits_view view_long builds_either joins_or (λ t q m k l m_is here a b. planted_either m m_is here a b)

  pub view_each : Tagged s at 15 i → Changed t₀ t₁ at (Many i) top → ViewGrows side s i at t₁ t₂ → ViewGrows side s at top t₀ t₂
  view_each = one_grows view_long builds_each wraps_many (λ t q l here a. planted_each here a)

-- The looks of a swap stand in the other order.
pub view_swap : (side : Side) {s : List ℕ} {at i m top : ℕ} {t₀ t₁ t₂ t₃ : List ℕ} → Tagged s at 13 i → Stands view_row ViewFine s i m → Changed t₀ t₁ at (swapped side i m) top → ViewGrows side s i at t₁ t₂ → ViewGrows side s m at t₂ t₃ → ViewGrows side s at top t₀ t₃
view_swap Source = two_grow splits_view view_long builds_swap joins_seq (λ t q m k l m_is here a b. planted_swap m m_is here a b)
view_swap Look = two_grow splits_view view_long builds_swap joins_turned (λ t q m k l m_is here a b. planted_turned m m_is here a b)

-- The view that the bytes say stands from their beginning to their end.
laid_row : {s : List ℕ} {v : View} → Encodes s v → Laid view_row ViewFine s 0 (length s) v
laid_row {s} {v} e = record {
  sound = e.fine;
  less = subst (λ r. 0 < length r) e.row (view_long v);
  within = omega arith;
  laid = sym e.row ∙ sym (append-nil (view_row v)) ∙ ap (λ r. view_row v ++ r) (sym (drop-length s));
}

pub tree_grown : {side : Side} {s t t' : List ℕ} {top : ℕ} → Bare t 0 (length s) → ViewGrows side s 0 top t t' → TreeOf side s t'
tree_grown {side} {s} {t} {t'} {top} bare g = record {
  grows = λ v e. planted_grows t' side 0 v (whole v e).tree;
  planted = λ v e. (whole v e).tree;
  linked = λ v e. record { parts = λ q l. ((whole v e).linked q (omega arith)).parts; two = λ q x y l. ((whole v e).linked q (omega arith)).two x y };
}
  where
    whole : (v : View) → Encodes s v → Rooted (length s) t' 0 (length s) top (λ words q. Planted words side q v)
    whole v e = (g.grown v _ (laid_row e) bare).rooted t' (λ p w. record { node = refl; up = refl })

-- No node stands where a tree begins with zeros.
pub bare_zeros : (zeros rest : List ℕ) {n : ℕ} → length zeros ≡ 4 * n → ((k : ℕ) → k < length zeros → slice_index zeros k ≡ 0) → Bare (zeros ++ rest) 0 n
bare_zeros zeros rest long none = record {
  none = λ p w.
      ap (λ kind. node_of kind (slice_index (zeros ++ rest) (4 * p + 1)) (slice_index (zeros ++ rest) (4 * p + 2)))
      (get_or_append_left zeros rest 0 (4 * p) (omega arith) ∙ none (4 * p) (omega arith));
}
