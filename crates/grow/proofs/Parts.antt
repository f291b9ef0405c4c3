-- What stands at a place of the row has grown, once its node was put and its parts have grown.
use Rattle.std.proofs.Common.{◌≡◌, ℕ, ◌+◌, ◌<◌, ◌≤◌, List, ◌++◌, length, drop, sym, ap, ◌∙◌, subst, append_assoc, arith, length-append, drop-drop}
use lib.Seq.{drop-append_seam}
use Rattle.rows.specs.Rows.{form_row, text_row, FormFine, TextFine}
use Rattle.rows.specs.Stands.{Stands, Nowhere, both_row, BothFine}
use Rattle.rows.specs.Nodes.{Tagged}
use Rattle.rows.proofs.Builds.{Splits, Builds}
use Rattle.rows.proofs.Tags.{hidden_row, HiddenFine, builds_hide}
use Rattle.rows.proofs.Unique.{splits_form}
use Rattle.clear.specs.declared.side.Side.TheVariants.{Source, Look}
use Rattle.clear.specs.Filled.{Laid}
use Rattle.clear.proofs.Laying.{laid_somewhere, laid_length, laid_behind, laid_both}
use Rattle.clear.proofs.Lengths.{form_long, text_long, both_long}
use Rattle.trees.specs.declared.nodes.Node.{Node}
use Rattle.trees.specs.declared.nodes.Node.TheVariants.{Same}
use Rattle.trees.specs.Nodes.{node_at, Changed}
use Rattle.trees.specs.Tree.{Grows}
use Rattle.grow.specs.Grown.{Grown, PartGrows, FormGrows, TextGrows, ShownGrows, ViewGrows}
use Rattle.grow.specs.Planted.{Planted, planted_hidden, planted_shown}
use Rattle.grow.proofs.Growing.{after, beside, still_bare, Joins, Wraps, wraps_same, grown_two, grown_one}

-- Where nothing stands, nothing need grow.
pub nowhere_grows : {A : Type 0} {row : A → List ℕ} {fine : A → Type 0} {T : A → List ℕ → ℕ → Type 0} {s : List ℕ} {at behind top : ℕ} {t t' : List ℕ} → Nowhere row fine s behind → PartGrows row fine T s at behind top t t'
nowhere_grows n = record { grown = λ x e l bare. absurd (laid_somewhere l n) }

-- Of two things that stand one after the other, where the first one ends
laid_front : {A B : Type 0} (row : A → List ℕ) (fine : A → Type 0) (row' : B → List ℕ) (fine' : B → Type 0) → ((x : A) → 0 < length (row x)) → {s : List ℕ} {at e : ℕ} (p : A × B) → Laid (both_row row row') (BothFine fine fine') s at e p → (m : ℕ) × ((m ≤ e) × Laid row fine s at m p.0)
laid_front row fine row' fine' some {s} {at} {e} p l =
    let long = laid_length (both_row row row') s at e p (omega (arith, l.less, l.within)) l.within l.laid in
    let split = l.laid ∙ append_assoc (row p.0) (row' p.1) (drop e s) in
    let rest : drop (at + length (row p.0)) s ≡ row' p.1 ++ drop e s = sym (drop-drop (length (row p.0)) at s) ∙ ap (drop (length (row p.0))) split ∙ drop-append_seam (row p.0) _ in
    let ends : at + length (row p.0) ≤ e = omega (arith, long, length-append (row p.0) (row' p.1)) in
    (at + length (row p.0), (ends, record { sound = l.sound.0; less = omega (arith, some p.0); within = omega (arith, l.within); laid = split ∙ ap (λ r. row p.0 ++ r) (sym rest) }))

-- A node over two parts of its own kind
module _ {C : Type 0} {row : C → List ℕ} {fine : C → Type 0} {T : C → List ℕ → ℕ → Type 0} (one : (x : C) → Splits row x) (long : (x : C) → 0 < length (row x)) where
  pub two_grow : {tag : ℕ} {made : ℕ → ℕ → Node} (b : Builds tag (both_row row row) (BothFine fine fine) row fine) → Joins made → ((t : List ℕ) (q m : ℕ) (x y : C) → m ≡ q + 1 + length (row x) → node_at t q ≡ made (q + 1) m → T x t (q + 1) → T y t m → T (b.make (x, y)) t q) → {s : List ℕ} {at i m top : ℕ} {t₀ t₁ t₂ t₃ : List ℕ} → Tagged s at tag i → Stands row fine s i m → Changed t₀ t₁ at (made i m) top → PartGrows row fine T s i i at t₁ t₂ → PartGrows row fine T s m m at t₂ t₃ → PartGrows row fine T s at at top t₀ t₃
  two_grow {made = made} b j stands {s} {at} {i} {m} {top} {t₀} {t₁} {t₂} {t₃} g a c first second = record {
    grown = λ x e l bare.
        let (p, is, both) = laid_behind b (both_long row row long) g l in
        let (f_laid, g_laid) = laid_both one long p a both in
        let i_is = g.behind in
        let less : i < m = f_laid.less in
        let less' : m < e = g_laid.less in
        let f_grown = first.grown p.0 m f_laid (still_bare (omega arith) (omega arith) (λ q w. beside c q (λ z. omega arith)) bare) in
        let g_grown = second.grown p.1 e g_laid (still_bare (omega arith) (omega arith) (λ q w. after (beside c q (λ z. omega arith)) (f_grown.kept q (λ v. omega arith))) bare) in
        let m_is : m ≡ at + 1 + length (row p.0) = omega (arith, laid_length row s i m p.0 (omega (arith, f_laid.within)) f_laid.within f_laid.laid) in
        subst (λ z. Grown (length s) t₀ t₃ at e top (T z)) (sym is) (grown_two j c f_grown g_grown i_is less less' l.within
        (λ t here x_tree. stands t at m p.0 p.1 m_is (subst (λ k. node_at t at ≡ made k m) i_is here) (subst (T p.0 t) i_is x_tree)));
  }

-- A node over one part
module _ {A C : Type 0} {row : A → List ℕ} {fine : A → Type 0} {T : A → List ℕ → ℕ → Type 0} {row' : C → List ℕ} {fine' : C → Type 0} {T' : C → List ℕ → ℕ → Type 0} (long : (x : A) → 0 < length (row x)) where
  pub one_grows : {tag : ℕ} {made : ℕ → Node} (b : Builds tag row fine row' fine') → Wraps made → ((t : List ℕ) (q : ℕ) (x : A) → node_at t q ≡ made (q + 1) → T x t (q + 1) → T' (b.make x) t q) → {s : List ℕ} {at i top : ℕ} {t₀ t₁ t₂ : List ℕ} → Tagged s at tag i → Changed t₀ t₁ at (made i) top → PartGrows row fine T s i i at t₁ t₂ → PartGrows row' fine' T' s at at top t₀ t₂
  one_grows {made = made} b j stands {s} {at} {i} {top} {t₀} {t₁} {t₂} g c body = record {
    grown = λ x e l bare.
        let (y, is, part) = laid_behind b long g l in
        let i_is = g.behind in
        let y_grown = body.grown y e part (still_bare (omega arith) (omega arith) (λ q w. beside c q (λ z. omega arith)) bare) in
        subst (λ z. Grown (length s) t₀ t₂ at e top (T' z)) (sym is) (grown_one j c bare y_grown (omega arith) part.less (omega arith) l.within
        (λ t here tree. stands t at y (subst (λ k. node_at t at ≡ made k) i_is here) (subst (T y t) i_is tree)));
  }

-- hide: its form, of the form and the two texts behind it
pub hidden_grows : {s : List ℕ} {at i top : ℕ} {t₀ t₁ t₂ : List ℕ} → Tagged s at 11 i → Changed t₀ t₁ at (Same i) top → FormGrows s i at t₁ t₂ → ViewGrows Source s at top t₀ t₂
hidden_grows {s} {at} {i} {top} {t₀} {t₁} {t₂} g c form = record {
  grown = λ x e l bare.
      let (p, is, parts) = laid_behind builds_hide (both_long form_row (both_row text_row text_row) form_long) g l in
      let (m, (ends, f_laid)) = laid_front form_row FormFine (both_row text_row text_row) (BothFine TextFine TextFine) form_long p parts in
      let i_is = g.behind in
      let f_grown = form.grown p.0 m f_laid (still_bare (omega arith) ends (λ q w. beside c q (λ z. omega arith)) bare) in
      subst (λ z. Grown (length s) t₀ t₂ at e top (λ t q. Planted t Source q z)) (sym is) (grown_one wraps_same c bare f_grown (omega arith) f_laid.less ends l.within
      (λ t here tree. planted_hidden (subst (λ k. node_at t at ≡ Same k) i_is here) (subst (λ k. Grows t k p.0) i_is tree)));
}

-- or the first of the two texts
pub shown_grows : {s : List ℕ} {at m top : ℕ} {t₀ t₁ t₂ : List ℕ} → Stands form_row FormFine s (at + 1) m → Changed t₀ t₁ at (Same m) top → TextGrows s m at t₁ t₂ → ShownGrows s at top t₀ t₂
shown_grows {s} {at} {m} {top} {t₀} {t₁} {t₂} a c text = record {
  grown = λ p e l bare.
      let (f_laid, texts) = laid_both splits_form (both_long text_row text_row text_long) p a l in
      let (m', (ends, v_laid)) = laid_front text_row TextFine text_row TextFine text_long p.1 texts in
      let less : at + 1 < m = f_laid.less in
      let v_grown = text.grown p.1.0 m' v_laid (still_bare (omega arith) ends (λ q w. beside c q (λ z. omega arith)) bare) in
      let m_is = laid_length form_row s (at + 1) m p.0 (omega (arith, f_laid.within)) f_laid.within f_laid.laid in
      grown_one wraps_same c bare v_grown (omega arith) v_laid.less ends l.within (λ t here tree. planted_shown m m_is here tree);
}

pub look_grows : {s : List ℕ} {at i top : ℕ} {t t' : List ℕ} → Tagged s at 11 i → ShownGrows s at top t t' → ViewGrows Look s at top t t'
look_grows {s} {at} {i} {top} {t} {t'} g shown = record {
  grown = λ x e l bare.
      let (p, is, parts) = laid_behind builds_hide (both_long form_row (both_row text_row text_row) form_long) g l in
      subst (λ z. Grown (length s) t t' at e top (λ t q. Planted t Look q z)) (sym is) (shown.grown p e (subst (λ z. Laid hidden_row HiddenFine s z e p) g.behind parts) bare);
}
