-- Lists: two cuts of one list, and what an empty list is made of.
-- Not here: forms, and which texts are of them (Inversions).
use mathlib.Core.Path.{◌≡◌, refl}
use mathlib.Core.Logic.{◌⊎◌, inl, inr}
use mathlib.Core.List.{List, [], ◌∷◌, ◌++◌}
use Prim.Native.Nat.{ℕ}
use native.Mathlib.Omega.{arith}

-- Of two cuts of one list, one has a middle piece behind its first part that the other has before its second.
pub levi : {A : Type 0} (u v x y : List A) → u ++ v ≡ x ++ y → ((w : List A) × (x ≡ u ++ w) × (v ≡ w ++ y)) ⊎ ((w : List A) × (u ≡ x ++ w) × (y ≡ w ++ v))
levi [] v x y e = inl (x, refl, e)
levi (a ∷ u) v [] y e = inr (a ∷ u, refl, cc)
levi (a ∷ u) v (b ∷ x) y e =
    let rest : u ++ v ≡ x ++ y = cc in
    elim (levi u v x y rest) [ inl m ↦ inl (m.0, cc m.1, m.2) | inr m ↦ inr (m.0, cc m.1, m.2) ]

-- A list with an element is not empty.
pub cons_not_nil : {A : Type 0} {B : Type 0} {a : A} {u : List A} → a ∷ u ≡ [] → B
cons_not_nil e = let z : ◌≡◌ {A = ℕ} 0 1 = cc in absurd (omega arith)

-- The first part of an empty list is empty.
pub append_nil_left : {A : Type 0} (u v : List A) → u ++ v ≡ [] → u ≡ []
append_nil_left [] v e = refl
append_nil_left (a ∷ u) v e = cons_not_nil e
