-- What stands behind a node: a thing that stands in a row, taken apart where the reader says that its parts end.
use Rattle.std.proofs.Common.{◌≡◌, ℕ, ◌+◌, ◌<◌, ◌≤◌, List, ◌++◌, length, drop, sym, ap, ◌∙◌, subst, append_assoc, arith, length-append, length-drop}
use Rattle.rows.specs.Stands.{Stands, Nowhere, Heads, both_row, BothFine}
use Rattle.rows.specs.Nodes.{Tagged}
use Rattle.rows.proofs.Builds.{Splits, Builds}
use Rattle.clear.specs.Filled.{Laid}

-- Where a thing ends: as far on as its row is long.
pub laid_length : {A : Type 0} (row : A → List ℕ) (s : List ℕ) (at e : ℕ) (x : A) → at ≤ length s → e ≤ length s → drop at s ≡ row x ++ drop e s → e ≡ at + length (row x)
laid_length row s at e x h h' l = omega (arith, ap length l, length-drop at s, length-drop e s, length-append (row x) (drop e s))

module _ {A : Type 0} {row : A → List ℕ} {fine : A → Type 0} {s : List ℕ} {at : ℕ} where
  pub laid_somewhere : {e : ℕ} {x : A} → Laid row fine s at e x → Nowhere row fine s at → ⊥
  laid_somewhere {e} {x} l n = n.never x (drop e s) l.sound l.laid

  -- It is the thing whose row stands there, and ends with it.
  pub laid_heads : {e : ℕ} {x : A} (y : A) → Splits row y → Heads s at (row y) → Laid row fine s at e x → (x ≡ y) × (e ≡ at + length (row y))
  laid_heads {e} {x} y one h l =
      let same : y ≡ x = (one.only x _ _ (sym h.laid ∙ l.laid)).0 in
      (sym same, laid_length row s at e x (omega (arith, l.less, l.within)) l.within l.laid ∙ ap (λ z. at + length (row z)) (sym same))

  -- It ends where the reader says.
  pub laid_ends : {e m : ℕ} {x : A} → ((y : A) → Splits row y) → Stands row fine s at m → Laid row fine s at e x → m ≡ e
  laid_ends {e} {m} {x} one a l =
      let same = (one a.thing).only x (drop m s) (drop e s) (sym a.laid ∙ l.laid) in
      omega (arith, ap length same.1, length-drop m s, length-drop e s, a.within, l.within)

-- Behind a tag stands what the thing is made of.
module _ {A C : Type 0} {t : ℕ} {row : A → List ℕ} {fine : A → Type 0} {row' : C → List ℕ} {fine' : C → Type 0} (b : Builds t row fine row' fine') (some : (a : A) → 0 < length (row a)) where
  pub laid_behind : {s : List ℕ} {at i e : ℕ} {x : C} → Tagged s at t i → Laid row' fine' s at e x → (a : A) × (x ≡ b.make a) × Laid row fine s i e a
  laid_behind {s} {at} {i} {e} {x} g l =
      let u = b.undo x _ (drop e s) (sym g.heads.laid ∙ l.laid) in
      let here : drop i s ≡ row u.0 ++ drop e s = ap (λ k. drop k s) g.behind ∙ u.2 in
      let long = laid_length row s i e u.0 (omega (arith, g.behind, g.heads.within)) l.within here in
      (u.0, u.1, record { sound = b.gives u.0 (subst fine' u.1 l.sound); less = omega (arith, long, some u.0); within = l.within; laid = here })

-- Of two things that stand one after the other, the second stands where the first ends.
module _ {A B : Type 0} {row : A → List ℕ} {fine : A → Type 0} {row' : B → List ℕ} {fine' : B → Type 0} (one : (x : A) → Splits row x) (some : (y : B) → 0 < length (row' y)) where
  pub laid_both : {s : List ℕ} {at m e : ℕ} (p : A × B) → Stands row fine s at m → Laid (both_row row row') (BothFine fine fine') s at e p → Laid row fine s at m p.0 × Laid row' fine' s m e p.1
  laid_both {s} {at} {m} {e} p a l =
      let same = (one a.thing).only p.0 (drop m s) (row' p.1 ++ drop e s) (sym a.laid ∙ l.laid ∙ append_assoc (row p.0) (row' p.1) (drop e s)) in
      let long = laid_length row' s m e p.1 a.within l.within same.1 in (
        record { sound = l.sound.0; less = a.less; within = a.within; laid = a.laid ∙ ap (λ x. row x ++ drop m s) same.0 },
        record { sound = l.sound.1; less = omega (arith, long, some p.1); within = l.within; laid = same.1 },
      )
