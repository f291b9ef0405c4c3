-- Growing a literal text: each place stands for the byte behind it and the rest, and the last one for the empty text.
use Rattle.std.proofs.Common.{◌≡◌, ℕ, suc, ◌+◌, ◌-◌, ◌<◌, ◌≤◌, List, [], ◌∷◌, ◌++◌, length, get_or, drop, sym, refl, ap, ◌∙◌, subst, add-zero, arith, get_or-drop, drop-drop}
use native.Mathlib.Decide.{dec_lt}
use Rattle.lens.specs.Forms.{Text, exactly}
use Rattle.rows.specs.Rows.{text_row, TextFine}
use Rattle.rows.specs.Stands.{Stands}
use Rattle.rows.proofs.Unique.{splits_text}
use Rattle.clear.specs.Filled.{Within}
use Rattle.clear.proofs.Laying.{laid_length, laid_ends}
use Rattle.trees.specs.declared.nodes.Node.{Node}
use Rattle.trees.specs.declared.nodes.Node.TheVariants.{Empty, Byte}
use Rattle.trees.specs.Nodes.{node_at, up_at, Changed}
use Rattle.trees.specs.Tree.{Grows, grows_empty, grows_byte}
use Rattle.grow.specs.Grown.{Alike, LinkedAt, Rooted, Grown, TextGrows}
use Rattle.grow.proofs.Growing.{after, beside, linked_made}

-- The parent of the place p of a text from `at` on is the place before it; that of the first is `top`.
pub record Above (at top p parent : ℕ) : Type 0 where
  pub first : p ≡ at → parent ≡ top
  pub behind : at < p → parent + 1 ≡ p

-- The places from `at` to k stand for the bytes behind them; the others are as in t₀. The place k is next.
pub record Chained (s t₀ t : List ℕ) (at top k above : ℕ) : Type 0 where
  pub reads : (p : ℕ) → Within at k p → node_at t p ≡ Byte (get_or s (p + 1) 0) (p + 1)
  pub ups : (p : ℕ) → Within at k p → Above at top p (up_at t p)
  pub kept : (p : ℕ) → (Within at k p → ⊥) → Alike t₀ t p
  pub next : Above at top k above

pub chained_none : {s t : List ℕ} {at top : ℕ} → Chained s t t at top at top
chained_none = record {
  reads = λ p w. absurd (omega arith);
  ups = λ p w. absurd (omega arith);
  kept = λ p out. record { node = refl; up = refl };
  next = record { first = λ e. refl; behind = λ l. absurd (omega arith) };
}

-- Once the node at k is put, below its parent, every place up to k is below the right one.
ups_put : {s t₀ t t' : List ℕ} {at top k above : ℕ} {made : Node} → Chained s t₀ t at top k above → Changed t t' k made above → (p : ℕ) → at ≤ p → p ≤ k → Above at top p (up_at t' p)
ups_put {t' = t'} {at = at} {top = top} {k = k} a c p h h' =
    elim (dec_lt p k) [
      | yes l ↦ subst (Above at top p) (sym (c.elsewhere_under p (λ e. omega arith))) (a.ups p (omega arith))
      | no n ↦ let is : k ≡ p = omega arith in subst (λ z. Above at top z (up_at t' z)) is (subst (Above at top k) (sym c.under) a.next)
    ]

pub chained_more : {s t₀ t t' : List ℕ} {at top k above : ℕ} → at ≤ k → Chained s t₀ t at top k above → Changed t t' k (Byte (get_or s (k + 1) 0) (k + 1)) above → Chained s t₀ t' at top (k + 1) k
chained_more {s} {t₀} {t} {t'} {at} {top} {k} {above} h a c = record {
  reads = λ p w. elim (dec_lt p k) [ yes l ↦ c.elsewhere p (λ e. omega arith) ∙ a.reads p (omega arith) | no n ↦ let is : p ≡ k = omega arith in rw is c.here ];
  ups = λ p w. ups_put a c p (omega arith) (omega arith);
  kept = λ p out. after (a.kept p (λ w. out (omega arith))) (beside c p (λ e. out (omega arith)));
  next = record { first = λ e. absurd (omega arith); behind = λ l. refl };
}

-- A chain of places stands for the text behind the first of them.
grows_text : (t s : List ℕ) (v rest : Text) (p : ℕ) → drop (p + 1) s ≡ v ++ rest → ((q : ℕ) → p ≤ q → q < p + length v → node_at t q ≡ Byte (get_or s (q + 1) 0) (q + 1)) → node_at t (p + length v) ≡ Empty → Grows t p (exactly v)
grows_text t s [] rest p e reads last = grows_empty (rw add-zero at last)
grows_text t s (x ∷ v) rest p e reads last =
    let byte : get_or s (p + 1) 0 ≡ x = ap (λ i. get_or s i 0) (sym (add-zero (p + 1))) ∙ sym (get_or-drop (p + 1) s 0 0) ∙ ap (λ l. get_or l 0 0) e in
    let behind : drop (p + 1 + 1) s ≡ v ++ rest = sym (drop-drop 1 (p + 1) s) ∙ ap (λ l. drop 1 l) e in
    let same : p + 1 + length v ≡ p + suc (length v) = omega arith in
    grows_byte (p + 1) (subst (λ b. node_at t p ≡ Byte b (p + 1)) byte (reads p (omega arith) (omega arith)))
    (grows_text t s v rest (p + 1) behind (λ q h l. reads q (omega arith) (omega arith)) (rw same last))

module _ {s : List ℕ} {at x top above : ℕ} {t₀ t₁ t₂ : List ℕ} (a : Stands text_row TextFine s at x) (chain : Chained s t₀ t₁ at top (x - 1) above) (c : Changed t₁ t₂ (x - 1) Empty above) (t : List ℕ) (same : (p : ℕ) → Within at x p → Alike t₂ t p) where
  reads_there : (q : ℕ) → at ≤ q → q < x - 1 → node_at t q ≡ Byte (get_or s (q + 1) 0) (q + 1)
  reads_there q h h' = (same q (omega arith)).node ∙ c.elsewhere q (λ z. omega arith) ∙ chain.reads q (omega arith)

  last_there : node_at t (x - 1) ≡ Empty
  last_there = (same (x - 1) (omega (arith, a.less))).node ∙ c.here

  ups_there : (q : ℕ) → at ≤ q → q < x → Above at top q (up_at t q)
  ups_there q h h' = subst (Above at top q) (sym (same q (omega arith)).up) (ups_put chain c q h (omega arith))

  linked_there : (q : ℕ) → Within at x q → LinkedAt (length s) t q
  linked_there q w =
      elim (dec_lt q (x - 1)) [
        | yes l ↦ linked_made (Byte (get_or s (q + 1) 0) (q + 1)) (reads_there q (omega arith) l)
            (record { behind = omega arith; below = omega (arith, a.within); parent = omega (arith, (ups_there (q + 1) (omega arith) (omega arith)).behind (omega arith)) })
            (λ y z e. let n : ◌≡◌ {A = ℕ} 0 1 = cc in absurd (omega arith))
        | no l ↦ let is : x - 1 ≡ q = omega arith in subst (LinkedAt (length s) t) is (linked_made Empty last_there tt (λ y z e. let n : ◌≡◌ {A = ℕ} 0 1 = cc in absurd (omega arith)))
      ]

  rooted_text : (v : Text) (rest : List ℕ) → drop (at + 1) s ≡ v ++ rest → at + length v ≡ x - 1 → Rooted (length s) t at x top (λ words q. Grows words q (exactly v))
  rooted_text v rest behind last = record {
    tree = grows_text t s v rest at behind (λ q h l. reads_there q h (omega arith)) (rw last last_there);
    under = (ups_there at (omega arith) a.less).first refl;
    linked = linked_there;
  }

pub text_grows : {s : List ℕ} {at x top above : ℕ} {t₀ t₁ t₂ : List ℕ} → Stands text_row TextFine s at x → Chained s t₀ t₁ at top (x - 1) above → Changed t₁ t₂ (x - 1) Empty above → TextGrows s at top t₀ t₂
text_grows {s} {at} {x} {top} {above} {t₀} {t₁} {t₂} a chain c = record {
  grown = λ v e l bare.
      let ends : x ≡ e = laid_ends splits_text a l in
      let less : at < x = a.less in
      let e_is : e ≡ at + suc (length v) = laid_length text_row s at e v (omega (arith, l.less, l.within)) l.within l.laid in
      let behind : drop (at + 1) s ≡ v ++ drop e s = sym (drop-drop 1 at s) ∙ ap (λ z. drop 1 z) l.laid in
      subst (λ z. Grown (length s) t₀ t₂ at z top (λ t q. Grows t q (exactly v))) ends
      (record {
        kept = λ p out. after (chain.kept p (λ w. out (omega arith))) (beside c p (λ z. out (omega arith)));
        rooted = λ t same. rooted_text a chain c t same v (drop e s) behind (omega arith);
      });
}
