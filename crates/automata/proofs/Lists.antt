-- Finite lists: all pairs of their members; whether some member has a property, and whether something is a
-- member, where that can be told of each.
use mathlib.Core.Path.{◌≡◌, refl, sym, ap, subst}
use mathlib.Core.List.Memᴰ
use mathlib.Core.List.{List, [], ◌∷◌, ◌++◌, map, Memᴰ}
use mathlib.Core.Logic.{◌⊎◌, inl, inr}
use Rattle.reach.proofs.Decide.{Decided}

-- All pairs of a member of l and one of m.
unfoldable pub pairs : {A : Type 0} → List A → List A → List (A × A)
pairs [] m = []
pairs (x ∷ l) m = map (λ y. (x, y)) m ++ pairs l m

pub pairs_in : {A : Type 0} (l m : List A) (s : A × A) → Memᴰ s (pairs l m) → Memᴰ s.0 l × Memᴰ s.1 m
unfolding pairs
pairs_in [] m s h = absurd (Memᴰ.not-nil h)
pairs_in {A} (x ∷ l) m s h = sides (Memᴰ.append_cases (map (λ y. (x, y)) m) h) (pairs_in l m s)
  where
    sides : Memᴰ s (map (λ y. (x, y)) m) ⊎ Memᴰ s (pairs l m) →
        (Memᴰ s (pairs l m) → Memᴰ s.0 l × Memᴰ s.1 m) → Memᴰ s.0 (x ∷ l) × Memᴰ s.1 m
    sides (inl k) ih = let (y, i, e) = Memᴰ.of_map (λ y. (x, y)) m k in (Memᴰ.head (sym (ap (λ z. z.0) e)), Memᴰ.cast (sym (ap (λ z. z.1) e)) i)
    sides (inr k) ih = let (i, j) = ih k in (Memᴰ.tail i, j)

pub in_pairs : {A : Type 0} (l m : List A) (x y : A) → Memᴰ x l → Memᴰ y m → Memᴰ (x, y) (pairs l m)
unfolding pairs
in_pairs [] m x y h k = absurd (Memᴰ.not-nil h)
in_pairs (z ∷ l) m x y h k = elim (Memᴰ.cases_cons h) [ inl e ↦ Memᴰ.append_left (pairs l m) (Memᴰ.cast (ap (λ w. (w, y)) e) (Memᴰ.map (λ w. (z, w)) k)) | inr i ↦ Memᴰ.append_right (map (λ w. (z, w)) m) (in_pairs l m x y i k) ]

-- Some member of the list has P.
pub any_decided : {A : Type 0} (P : A → Type 0) → ((x : A) → Decided (P x)) → (l : List A) → Decided ((x : A) × Memᴰ x l × P x)
any_decided P d [] = inr (λ h. Memᴰ.not-nil h.1)
any_decided {A} P d (x ∷ l) = next (d x) (any_decided P d l)
  where
    next : Decided (P x) → Decided ((y : A) × Memᴰ y l × P y) → Decided ((y : A) × Memᴰ y (x ∷ l) × P y)
    next (inl p) k = inl (x, Memᴰ.head refl, p)
    next (inr p) (inl k) = inl (k.0, Memᴰ.tail k.1, k.2)
    next (inr p) (inr k) = inr (λ h. elim (Memᴰ.cases_cons h.1) [ inl e ↦ p (subst P e h.2) | inr i ↦ k (h.0, i, h.2) ])

module _ {A : Type 0} (same : (x y : A) → Decided (x ≡ y)) where
  pub same_pair : (s t : A × A) → Decided (s ≡ t)
  same_pair s t = sides (same s.0 t.0) (same s.1 t.1)
    where
      sides : Decided (s.0 ≡ t.0) → Decided (s.1 ≡ t.1) → Decided (s ≡ t)
      sides (inl d) (inl e) = inl (λ i. (d i, e i))
      sides (inl d) (inr n) = inr (λ h. n (ap (λ z. z.1) h))
      sides (inr n) e = inr (λ h. n (ap (λ z. z.0) h))

  pub among_decided : (s : A × A) (l : List (A × A)) → Decided (Memᴰ s l)
  among_decided s [] = inr Memᴰ.not-nil
  among_decided s (t ∷ l) = next (same_pair s t) (among_decided s l)
    where
      next : Decided (s ≡ t) → Decided (Memᴰ s l) → Decided (Memᴰ s (t ∷ l))
      next (inl e) k = inl (Memᴰ.head e)
      next (inr n) (inl k) = inl (Memᴰ.tail k)
      next (inr n) (inr k) = inr (λ h. elim (Memᴰ.cases_cons h) [ inl e ↦ n e | inr i ↦ k i ])
