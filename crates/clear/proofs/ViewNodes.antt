-- Laying one side of a view, node by node: from what was written and found for the node and its parts to the view.
use Rattle.std.proofs.Common.{◌≡◌, ℕ, ◌+◌, ◌<◌, ◌≤◌, Bool, true, not, ◌&&◌, eqb, List, Some, None, Decides, sym, refl, ◌∙◌, subst, arith}
use Rattle.rows.specs.Rows.{form_row, text_row, FormFine, TextFine}
use Rattle.rows.specs.Stands.{Stands, Nowhere, both_row, BothFine}
use Rattle.rows.proofs.Builds.{nowhere_first, nowhere_second}
use Rattle.rows.proofs.Tags.{Hidden, hidden_row, HiddenFine}
use Rattle.rows.proofs.Unique.{splits_form, splits_text}
use Rattle.automata.specs.Automaton.{to, fork, Meets, Crosses}
use Rattle.pairs.specs.Table.{shape_at, Changed}
use Rattle.clear.specs.declared.side.Side.{Side}
use Rattle.clear.specs.Filled.{Finding, Laid, FormFills, TextFills, ViewFills, CopyFills, HiddenFills, LiteralFills, SeriesFills, TurnedFills, ChoiceFills, PartsFills}
use Rattle.clear.proofs.Laying.{laid_somewhere, laid_ends, laid_both}
use Rattle.clear.proofs.Lengths.{text_long, both_long}
use Rattle.clear.proofs.Filling.{filled_pass, filled_seq, filled_turned, filled_or, filled_many, filled_first, first_acts, second_acts}
use Rattle.clear.proofs.Asking.{decides_three, decides_and, decides_apart, decides_cut, decides_literal, decides_parts}

-- The condition Unit always holds.
always : {b : Bool} → b ≡ true → Decides b (Unit {0})
always e = (λ _. tt, λ _. e)

answered : {P : Type 0} {b c : Bool} → b ≡ c → Decides c P → Decides b P
answered {P} e d = subst (λ z. Decides z P) (sym e) d

-- copy
pub finds_copy : {s : List ℕ} {at next x : ℕ} {t₀ t₁ t₂ : List ℕ} {q : Finding} → Changed t₀ t₁ at (to (at + 1)) → FormFills s (at + 1) next t₁ t₂ (Some x) → q.0 ≡ x → q.1.yes ≡ true → CopyFills s at next t₀ t₂ (Some q)
finds_copy {at = at} c a ends yes_clear = record {
  fills = λ f e l out.
      let (x_is, filled) = a.fills f e l in
      record { ends = ends ∙ x_is; filled = filled_pass (at + 1) c filled (omega arith) l.less (omega arith); decides = always yes_clear };
}

-- hide: where its form and its two texts stand
module _ {s : List ℕ} (at : ℕ) {m m' e : ℕ} where
  hidden_parts : Stands form_row FormFine s (at + 1) m → Stands text_row TextFine s m m' → (p : Hidden) → Laid hidden_row HiddenFine s (at + 1) e p → Laid form_row FormFine s (at + 1) m p.0 × (Laid text_row TextFine s m m' p.1.0 × Laid text_row TextFine s m' e p.1.1)
  hidden_parts a b p l =
      let (f, texts) = laid_both splits_form (both_long text_row text_row text_long) p a l in
      (f, laid_both splits_text text_long p.1 b texts)

-- where one of these is missing, nothing need be found
pub hidden_nowhere : {s : List ℕ} {at next : ℕ} {t t' : List ℕ} → Nowhere hidden_row HiddenFine s (at + 1) → HiddenFills s at next t t' None
hidden_nowhere n = record { fills = λ p e l out. laid_somewhere l n }

pub literal_nowhere : {s : List ℕ} {at next : ℕ} {t t' : List ℕ} → Nowhere hidden_row HiddenFine s (at + 1) → LiteralFills s at next t t' None
literal_nowhere n = record { fills = λ p e l out. laid_somewhere l n }

module _ {s : List ℕ} {at : ℕ} where
  pub no_form : Nowhere form_row FormFine s at → Nowhere hidden_row HiddenFine s at
  no_form n = nowhere_first form_row FormFine (both_row text_row text_row) (BothFine TextFine TextFine) n

  pub no_shown : {m : ℕ} → Stands form_row FormFine s at m → Nowhere text_row TextFine s m → Nowhere hidden_row HiddenFine s at
  no_shown a n = nowhere_second form_row FormFine (both_row text_row text_row) (BothFine TextFine TextFine) splits_form a (nowhere_first text_row TextFine text_row TextFine n)

  pub no_fresh : {m m' : ℕ} → Stands form_row FormFine s at m → Stands text_row TextFine s m m' → Nowhere text_row TextFine s m' → Nowhere hidden_row HiddenFine s at
  no_fresh a b n = nowhere_second form_row FormFine (both_row text_row text_row) (BothFine TextFine TextFine) splits_form a (nowhere_second text_row TextFine text_row TextFine splits_text b n)

pub hidden_unlaid : {s : List ℕ} {at m m' next next' : ℕ} {t t' t'' : List ℕ} → Stands form_row FormFine s (at + 1) m → Stands text_row TextFine s m m' → TextFills s m' next' t'' t' None → HiddenFills s at next t t' None
hidden_unlaid {at = at} a b fresh = record { fills = λ p e l out. fresh.fills p.1.1 e (hidden_parts at a b p l).1.1 }

pub finds_hidden : {s : List ℕ} {at m m' next x y : ℕ} {t₀ t₁ t₂ t₃ : List ℕ} {q : Finding} → Stands form_row FormFine s (at + 1) m → Stands text_row TextFine s m m' → Changed t₀ t₁ at (to (at + 1)) → FormFills s (at + 1) next t₁ t₂ (Some x) → TextFills s m' next t₂ t₃ (Some y) → Decides q.1.yes (Meets (λ z. eqb z next) (shape_at t₃) m' (at + 1) next) → q.0 ≡ y → HiddenFills s at next t₀ t₃ (Some q)
finds_hidden {at = at} {m = m} {m' = m'} {t₃ = t₃} {q = q} a b c form fresh met ends = record {
  fills = λ p e l out.
      let (f, (v, d)) = hidden_parts at a b p l in
      let (_, f_filled) = form.fills p.0 m f in
      let (y_is, d_filled) = fresh.fills p.1.1 e d in
      let before : at < m = omega (arith, f.less) in
      let between : m ≤ m' = omega (arith, v.less) in
      record {
        ends = ends ∙ y_is;
        filled = filled_first c f_filled d_filled before between d.less refl;
        decides = decides_literal (shape_at t₃) p.1.1 (λ w. out (omega arith)) (λ w. out (omega (arith, d.less))) (second_acts c f_filled d_filled before between d.less {start = m'} {end = e} (omega arith) (omega arith)) (first_acts c f_filled d_filled before between d.less {start = at + 1} {end = m} (omega arith) (omega arith)) q.1.yes met;
      };
}

pub finds_literal : {s : List ℕ} {at m m' x y next : ℕ} {t₀ t₁ t₂ : List ℕ} {q : Finding} → Stands form_row FormFine s (at + 1) m → Stands text_row TextFine s m m' → Stands text_row TextFine s m' y → Changed t₀ t₁ at (to m) → TextFills s m next t₁ t₂ (Some x) → q.0 ≡ y → q.1.yes ≡ true → LiteralFills s at next t₀ t₂ (Some q)
finds_literal {at = at} {m = m} {m' = m'} a b b' c shown ends yes_clear = record {
  fills = λ p e l out.
      let (f, (v, d)) = hidden_parts at a b p l in
      let (_, v_filled) = shown.fills p.1.0 m' v in
      record {
        ends = ends ∙ laid_ends splits_text b' d;
        filled = filled_pass m c v_filled (omega (arith, f.less)) v.less (omega (arith, d.less));
        decides = always yes_clear;
      };
}

-- Two views: one after the other, in the other order, one or the other
module _ {side : Side} {s : List ℕ} {at m next : ℕ} {t₀ t₁ t₂ t₃ : List ℕ} {q₁ q₂ q : Finding} {b : Bool} (h : at < m) (ends : q.0 ≡ q₂.0) (told : q.1.yes ≡ (q₁.1.yes && q₂.1.yes) && not b) where
  pub finds_series : Changed t₀ t₁ at (to (at + 1)) → ViewFills side s (at + 1) m t₁ t₂ (Some q₁) → ViewFills side s m next t₂ t₃ (Some q₂) → Decides b (Crosses (λ z. eqb z m) (λ z. eqb z next) (shape_at t₃) (at + 1) m next) → SeriesFills side s at m next t₀ t₃ (Some q)
  finds_series c first second crossed = record {
    fills = λ k l e k_laid l_laid out.
        let f = first.fills k m k_laid (λ w. omega arith) in
        let g = second.fills l e l_laid (λ w. out (omega arith)) in
        let less : m < e = l_laid.less in
        record {
          ends = ends ∙ g.ends;
          filled = filled_seq c f.filled g.filled h less;
          decides = answered told (decides_three q₁.1.yes q₂.1.yes (not b) f.decides g.decides
              (decides_cut (shape_at t₃) (λ w. out (omega arith)) (λ w. out (omega arith)) m (λ w. omega arith) (first_acts c f.filled g.filled h (omega arith) less {start = at + 1} {end = m} (omega arith) (omega arith)) (second_acts c f.filled g.filled h (omega arith) less {start = m} {end = e} (omega arith) (omega arith)) b crossed));
        };
  }

  pub finds_turned : Changed t₀ t₁ at (to m) → ViewFills side s (at + 1) next t₁ t₂ (Some q₁) → ViewFills side s m (at + 1) t₂ t₃ (Some q₂) → Decides b (Crosses (λ z. eqb z (at + 1)) (λ z. eqb z next) (shape_at t₃) m (at + 1) next) → TurnedFills side s at m next t₀ t₃ (Some q)
  finds_turned c first second crossed = record {
    fills = λ k l e k_laid l_laid out.
        let less : m < e = l_laid.less in
        let more : at + 1 < m = k_laid.less in
        let f = first.fills k m k_laid (λ w. out (omega arith)) in
        let g = second.fills l e l_laid (λ w. omega arith) in
        record {
          ends = ends ∙ g.ends;
          filled = filled_turned c f.filled g.filled h less;
          decides = answered told (decides_three q₁.1.yes q₂.1.yes (not b) f.decides g.decides
              (decides_cut (shape_at t₃) (λ w. out (omega arith)) (λ w. out (omega arith)) (at + 1) (λ w. omega arith) (second_acts c f.filled g.filled h (omega arith) less {start = m} {end = e} (omega arith) (omega arith)) (first_acts c f.filled g.filled h (omega arith) less {start = at + 1} {end = m} (omega arith) (omega arith)) b crossed));
        };
  }

  pub finds_choice : Changed t₀ t₁ at (fork (at + 1) m) → ViewFills side s (at + 1) next t₁ t₂ (Some q₁) → ViewFills side s m next t₂ t₃ (Some q₂) → Decides b (Meets (λ z. eqb z next) (shape_at t₃) (at + 1) m next) → ChoiceFills side s at m next t₀ t₃ (Some q)
  finds_choice c first second met = record {
    fills = λ k l e k_laid l_laid out.
        let less : m < e = l_laid.less in
        let f = first.fills k m k_laid (λ w. out (omega arith)) in
        let g = second.fills l e l_laid (λ w. out (omega arith)) in
        record {
          ends = ends ∙ g.ends;
          filled = filled_or c f.filled g.filled h less;
          decides = answered told (decides_three q₁.1.yes q₂.1.yes (not b) f.decides g.decides
              (decides_apart (shape_at t₃) (λ w. out (omega arith)) (λ w. out (omega arith)) (first_acts c f.filled g.filled h (omega arith) less {start = at + 1} {end = m} (omega arith) (omega arith)) (second_acts c f.filled g.filled h (omega arith) less {start = m} {end = e} (omega arith) (omega arith)) b met));
        };
  }

-- Any number of parts
pub finds_parts : {side : Side} {s : List ℕ} {at next : ℕ} {t₀ t₁ t₂ : List ℕ} {q₁ q : Finding} {a b : Bool} → q.0 ≡ q₁.0 → q.1.yes ≡ q₁.1.yes && (not a && not b) → Changed t₀ t₁ at (fork next (at + 1)) → ViewFills side s (at + 1) at t₁ t₂ (Some q₁) → Decides a (Meets (λ z. eqb z at) (shape_at t₂) (at + 1) at at) → Decides b (Crosses (λ z. eqb z at) (λ z. eqb z next) (shape_at t₂) (at + 1) at next) → PartsFills side s at next t₀ t₂ (Some q)
finds_parts {at = at} {t₂ = t₂} {q₁ = q₁} {a = a} {b = b} ends told c body none crossed = record {
  fills = λ l e l_laid out.
      let f = body.fills l e l_laid (λ w. omega arith) in
      let whole = filled_many c f.filled l_laid.less in
      record {
        ends = ends ∙ f.ends;
        filled = whole;
        decides = answered told (decides_and q₁.1.yes (not a && not b) f.decides
            (decides_parts (shape_at t₂) (λ w. out (omega arith)) out at (λ w. omega arith) f.filled.acts whole.acts a b none crossed));
      };
}
