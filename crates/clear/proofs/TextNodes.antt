-- Laying a literal text: each place reads the byte behind it, and the last one goes on.
use Rattle.std.proofs.Common.{◌≡◌, ℕ, suc, ◌+◌, ◌-◌, ◌<◌, ◌≤◌, List, [], ◌∷◌, ◌++◌, length, get_or, drop, Some, sym, refl, ap, ◌∙◌, subst, add-zero, arith, get_or-drop, drop-drop}
use native.Mathlib.Decide.{dec_lt}
use Rattle.lens.specs.Forms.{Text, exactly}
use Rattle.rows.specs.Rows.{text_row, TextFine}
use Rattle.rows.specs.Stands.{Stands}
use Rattle.rows.proofs.Unique.{splits_text}
use Rattle.automata.specs.Automaton.{Shape, to, leaf, Acts, a_pass, a_none, a_one, a_seq}
use Rattle.pairs.specs.Table.{shape_at, Changed}
use Rattle.clear.specs.Filled.{Within, TextFills}
use Rattle.clear.proofs.Laying.{laid_length}

-- The places from `at` to k read the bytes behind them; the others are as in t₀.
pub record Chained (s t₀ t : List ℕ) (at k : ℕ) : Type 0 where
  pub reads : (p : ℕ) → Within at k p → shape_at t p ≡ leaf (get_or s (p + 1) 0) (get_or s (p + 1) 0) (p + 1)
  pub kept : (p : ℕ) → (Within at k p → ⊥) → shape_at t p ≡ shape_at t₀ p

pub chained_none : {s t : List ℕ} {at : ℕ} → Chained s t t at at
chained_none = record { reads = λ p w. absurd (omega arith); kept = λ p out. refl }

pub chained_more : {s t₀ t t' : List ℕ} {at k : ℕ} → at ≤ k → Chained s t₀ t at k → Changed t t' k (leaf (get_or s (k + 1) 0) (get_or s (k + 1) 0) (k + 1)) → Chained s t₀ t' at (k + 1)
chained_more {s} {t₀} {t} {t'} {at} {k} h a c = record {
  reads = λ p w. elim (dec_lt p k) [ yes l ↦ c.elsewhere p (λ e. omega arith) ∙ a.reads p (omega arith) | no n ↦ let is : p ≡ k = omega arith in rw is c.here ];
  kept = λ p out. c.elsewhere p (λ e. out (omega arith)) ∙ a.kept p (λ w. out (omega arith));
}

-- A chain of places acts as the text that stands behind the first of them.
acts_text : (shape : ℕ → Shape ℕ) (ok : ℕ → Type 0) (s : List ℕ) (v rest : Text) (p next : ℕ) → drop (p + 1) s ≡ v ++ rest → ((q : ℕ) → p ≤ q → q < p + length v → shape q ≡ leaf (get_or s (q + 1) 0) (get_or s (q + 1) 0) (q + 1)) → ((q : ℕ) → p ≤ q → q ≤ p + length v → ok q) → shape (p + length v) ≡ to next → Acts shape ok (exactly v) p next
acts_text shape ok s [] rest p next e reads inside last = a_pass next (inside p (omega arith) (omega arith)) (rw add-zero at last) a_none
acts_text shape ok s (x ∷ v) rest p next e reads inside last =
    let byte : get_or s (p + 1) 0 ≡ x = ap (λ i. get_or s i 0) (sym (add-zero (p + 1))) ∙ sym (get_or-drop (p + 1) s 0 0) ∙ ap (λ l. get_or l 0 0) e in
    let behind : drop (p + 1 + 1) s ≡ v ++ rest = sym (drop-drop 1 (p + 1) s) ∙ ap (λ l. drop 1 l) e in
    let same : p + 1 + length v ≡ p + suc (length v) = omega arith in
    a_seq (p + 1)
    (a_one (inside p (omega arith) (omega arith)) (subst (λ b. shape p ≡ leaf b b (p + 1)) byte (reads p (omega arith) (omega arith))))
    (acts_text shape ok s v rest (p + 1) next behind (λ q h l. reads q (omega arith) (omega arith)) (λ q h l. inside q (omega arith) (omega arith)) (rw same last))

pub fills_text : {s : List ℕ} {at next x : ℕ} {t₀ t₁ t₂ : List ℕ} → Stands text_row TextFine s at x → Chained s t₀ t₁ at (x - 1) → Changed t₁ t₂ (x - 1) (to next) → TextFills s at next t₀ t₂ (Some x)
fills_text {s} {at} {next} {x} {t₀} {t₁} {t₂} a chain c = record {
  fills = λ v e l.
      let same : a.thing ≡ v = ((splits_text a.thing).only v (drop x s) (drop e s) (sym a.laid ∙ l.laid)).0 in
      let x_is : x ≡ at + suc (length v) = laid_length text_row s at x a.thing (omega (arith, a.less, a.within)) a.within a.laid ∙ ap (λ z. at + suc (length z)) same in
      let e_is : e ≡ at + suc (length v) = laid_length text_row s at e v (omega (arith, l.less, l.within)) l.within l.laid in
      let ends : x ≡ e = omega arith in
      let behind : drop (at + 1) s ≡ v ++ drop e s = sym (drop-drop 1 at s) ∙ ap (λ z. drop 1 z) l.laid in
      let last : at + length v ≡ x - 1 = omega arith in (
        ends,
        record {
          acts = acts_text (shape_at t₂) (Within at e) s v (drop e s) at next behind
              (λ q h h'. c.elsewhere q (λ z. omega arith) ∙ chain.reads q (omega arith))
              (λ q h h'. omega arith)
              (rw last c.here);
          kept = λ p out. c.elsewhere p (λ z. out (omega arith)) ∙ chain.kept p (λ w. out (omega arith));
        },
      );
}
