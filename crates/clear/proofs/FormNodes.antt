-- Laying a form, node by node: from what was written for the node and for its parts to the whole form.
use Rattle.std.proofs.Common.{◌≡◌, ℕ, ◌+◌, List, Some, None, Option, sym, subst, arith}
use Rattle.lens.specs.Forms.{Form, empty, one, seq, or, many}
use Rattle.rows.specs.Rows.{form_row, FormFine}
use Rattle.rows.specs.Stands.{Stands, Nowhere, Heads}
use Rattle.rows.specs.Nodes.{Tagged}
use Rattle.rows.proofs.Tags.{builds_seq, builds_or, builds_many}
use Rattle.rows.proofs.Unique.{splits_form}
use Rattle.automata.specs.Automaton.{to, fork, leaf}
use Rattle.pairs.specs.Table.{Changed}
use Rattle.clear.specs.Filled.{Laid, Filled, FormFills}
use Rattle.clear.proofs.Laying.{laid_somewhere, laid_heads, laid_behind, laid_both}
use Rattle.clear.proofs.Lengths.{form_long, both_long}
use Rattle.clear.proofs.Filling.{filled_empty, filled_one, filled_seq, filled_or, filled_many}

-- Where no form stands, nothing need be laid.
pub fills_none : {s : List ℕ} {at next : ℕ} {t t' : List ℕ} → ((f : Form) (e : ℕ) → Laid form_row FormFine s at e f → ⊥) → FormFills s at next t t' None
fills_none no_form = record { fills = no_form }

pub fills_nowhere : {s : List ℕ} {at next : ℕ} {t t' : List ℕ} → Nowhere form_row FormFine s at → FormFills s at next t t' None
fills_nowhere n = fills_none (λ f e l. laid_somewhere l n)

-- Leaves
pub fills_empty : {s : List ℕ} {at next : ℕ} {t t' : List ℕ} → Heads s at (form_row empty) → Changed t t' at (to next) → FormFills s at next t t' (Some (at + 1))
fills_empty {at = at} {next = next} {t = t} {t' = t'} h c = record {
  fills = λ f e l.
      let (is, ends) = laid_heads empty (splits_form empty) h l in
      (sym ends, subst (λ z. Filled t t' at z at next f) (sym ends) (subst (λ g. Filled t t' at (at + 1) at next g) (sym is) (filled_empty c)));
}

pub fills_one : {s : List ℕ} {at next a b : ℕ} {t t' : List ℕ} → Heads s at (form_row (one a b)) → Changed t t' at (leaf a b next) → FormFills s at next t t' (Some (at + 3))
fills_one {at = at} {next = next} {a = a} {b = b} {t = t} {t' = t'} h c = record {
  fills = λ f e l.
      let (is, ends) = laid_heads (one a b) (splits_form (one a b)) h l in
      (sym ends, subst (λ z. Filled t t' at z at next f) (sym ends) (subst (λ g. Filled t t' at (at + 3) at next g) (sym is) (filled_one c)));
}

-- Two parts: the first was laid to go on at next₁, the second to go on at next.
module _ {s : List ℕ} {at m : ℕ} where
  two_seq : {i : ℕ} → Tagged s at 2 i → Stands form_row FormFine s i m → (f : Form) (e : ℕ) → Laid form_row FormFine s at e f → (p : Form × Form) × (f ≡ seq p.0 p.1) × (Laid form_row FormFine s i m p.0 × Laid form_row FormFine s m e p.1)
  two_seq g a f e l = let (p, is, parts) = laid_behind builds_seq (both_long form_row form_row form_long) g l in (p, is, laid_both splits_form form_long p a parts)

  two_or : {i : ℕ} → Tagged s at 3 i → Stands form_row FormFine s i m → (f : Form) (e : ℕ) → Laid form_row FormFine s at e f → (p : Form × Form) × (f ≡ or p.0 p.1) × (Laid form_row FormFine s i m p.0 × Laid form_row FormFine s m e p.1)
  two_or g a f e l = let (p, is, parts) = laid_behind builds_or (both_long form_row form_row form_long) g l in (p, is, laid_both splits_form form_long p a parts)

  pub fills_seq : {i x next : ℕ} {t₀ t₁ t₂ t₃ : List ℕ} → Tagged s at 2 i → Stands form_row FormFine s i m → Changed t₀ t₁ at (to i) → FormFills s i m t₁ t₂ (Some x) → (r : Option ℕ) → FormFills s m next t₂ t₃ r → FormFills s at next t₀ t₃ r
  fills_seq {i} {x} {next} {t₀} {t₁} {t₂} {t₃} g a c first None second = fills_none (λ f e l. let (p, is, q) = two_seq g a f e l in second.fills p.1 e q.1)
  fills_seq {i} {x} {next} {t₀} {t₁} {t₂} {t₃} g a c first (Some y) second = record {
    fills = λ f e l.
        let (p, is, q) = two_seq g a f e l in
        let (_, f_filled) = first.fills p.0 m q.0 in
        let (ends, g_filled) = second.fills p.1 e q.1 in
        let i_is = g.behind in
        let whole : Filled t₀ t₃ at e at next (seq p.0 p.1) = filled_seq (subst (λ z. Changed t₀ t₁ at (to z)) i_is c) (subst (λ z. Filled t₁ t₂ z m z m p.0) i_is f_filled) g_filled (omega (arith, a.less, i_is)) q.1.less in
        (ends, subst (λ h. Filled t₀ t₃ at e at next h) (sym is) whole);
  }

  pub fills_or : {i x next : ℕ} {t₀ t₁ t₂ t₃ : List ℕ} → Tagged s at 3 i → Stands form_row FormFine s i m → Changed t₀ t₁ at (fork i m) → FormFills s i next t₁ t₂ (Some x) → (r : Option ℕ) → FormFills s m next t₂ t₃ r → FormFills s at next t₀ t₃ r
  fills_or {i} {x} {next} {t₀} {t₁} {t₂} {t₃} g a c first None second = fills_none (λ f e l. let (p, is, q) = two_or g a f e l in second.fills p.1 e q.1)
  fills_or {i} {x} {next} {t₀} {t₁} {t₂} {t₃} g a c first (Some y) second = record {
    fills = λ f e l.
        let (p, is, q) = two_or g a f e l in
        let (_, f_filled) = first.fills p.0 m q.0 in
        let (ends, g_filled) = second.fills p.1 e q.1 in
        let i_is = g.behind in
        let whole : Filled t₀ t₃ at e at next (or p.0 p.1) = filled_or (subst (λ z. Changed t₀ t₁ at (fork z m)) i_is c) (subst (λ z. Filled t₁ t₂ z m z next p.0) i_is f_filled) g_filled (omega (arith, a.less, i_is)) q.1.less in
        (ends, subst (λ h. Filled t₀ t₃ at e at next h) (sym is) whole);
  }

pub fills_many : {s : List ℕ} {at i next : ℕ} {t₀ t₁ t₂ : List ℕ} → Tagged s at 4 i → Changed t₀ t₁ at (fork next i) → (r : Option ℕ) → FormFills s i at t₁ t₂ r → FormFills s at next t₀ t₂ r
fills_many {at = at} {i = i} {next = next} {t₀ = t₀} {t₁ = t₁} {t₂ = t₂} g c None body = fills_none (λ f e l. let (p, is, q) = laid_behind builds_many form_long g l in body.fills p e q)
fills_many {at = at} {i = i} {next = next} {t₀ = t₀} {t₁ = t₁} {t₂ = t₂} g c (Some y) body = record {
  fills = λ f e l.
      let (p, is, q) = laid_behind builds_many form_long g l in
      let (ends, p_filled) = body.fills p e q in
      let i_is = g.behind in
      let whole : Filled t₀ t₂ at e at next (many p) = filled_many (subst (λ z. Changed t₀ t₁ at (fork next z)) i_is c) (subst (λ z. Filled t₁ t₂ z e z at p) i_is p_filled) (omega (arith, q.less, i_is)) in
      (ends, subst (λ h. Filled t₀ t₂ at e at next h) (sym is) whole);
}
