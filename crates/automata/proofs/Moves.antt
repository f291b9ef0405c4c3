-- Two runs side by side: what the moves of a pair of states are, sound and complete.
-- Not here: paths of such moves (Paths).
use mathlib.Core.Path.{◌≡◌, refl, sym, ap, subst}
use mathlib.Core.Bool.{Bool, true, false, cond}
use mathlib.Core.List.Memᴰ
use mathlib.Core.List.{[], ◌∷◌, Memᴰ}
use mathlib.Core.Logic.{inl, inr}
use Prim.Native.Nat.{ℕ, ◌≤◌, min, max}
use native.Mathlib.Omega.{arith}
use borrow.Author.Tests.{leb-true, le-leb}
use Rattle.automata.specs.Automaton.{Shape, stop, to, fork, leaf, overlap, moves}
use Rattle.automata.proofs.Runs.{Silent, Reads}

-- What the moves are

-- A state of this shape does not move without a byte.
abbrev pub Waits : {A : Type 0} → Shape A → Type 0
Waits stop = Unit {0}
Waits (to q) = ⊥
Waits (fork q r) = ⊥
Waits (leaf a b q) = Unit {0}

-- A move of the pair (p, q), of shapes s and t, to (p', q').
pub data Moved {A : Type 0} (p q : A) (s t : Shape A) (p' q' : A) : Type 0 where
  first : Silent s p' → q' ≡ q → Moved p q s t p' q'
  second : Waits s → Silent t q' → p' ≡ p → Moved p q s t p' q'
  both : (x : ℕ) → Reads s x p' → Reads t x q' → Moved p q s t p' q'

overlap_sound : (a b c d : ℕ) → overlap a b c d ≡ true → (x : ℕ) × (a ≤ x) × (x ≤ b) × (c ≤ x) × (x ≤ d)
overlap_sound a b c d e = let l : max a c ≤ min b d = leb-true (max a c) (min b d) e in (max a c, omega arith, omega arith, omega arith, omega arith)

overlap_complete : (a b c d x : ℕ) → a ≤ x → x ≤ b → c ≤ x → x ≤ d → overlap a b c d ≡ true
overlap_complete a b c d x l₁ h₁ l₂ h₂ = le-leb (max a c) (min b d) (omega arith)

module _ {A : Type 0} (p q : A) where
  -- one move, or one of two
  only : (s t : Shape A) (m r : A × A) → Moved p q s t m.0 m.1 → Memᴰ r (m ∷ []) → Moved p q s t r.0 r.1
  only s t m r k h = subst (λ z. Moved p q s t z.0 z.1) (sym (Memᴰ.eq_of_singleton h)) k

  of_two : (s t : Shape A) (m n r : A × A) → Moved p q s t m.0 m.1 → Moved p q s t n.0 n.1 → Memᴰ r (m ∷ n ∷ []) →
      Moved p q s t r.0 r.1
  of_two s t m n r k l h = elim (Memᴰ.cases_cons h) [ inl e ↦ subst (λ z. Moved p q s t z.0 z.1) (sym e) k | inr h' ↦ only s t n r l h' ]

  together : (a b c d : ℕ) (p' q' : A) (r : A × A) (o : Bool) → overlap a b c d ≡ o → Memᴰ r (cond o ((p', q') ∷ []) []) →
      Moved p q (leaf a b p') (leaf c d q') r.0 r.1
  together a b c d p' q' r true e h = let (x, l₁, h₁, l₂, h₂) = overlap_sound a b c d e in only (leaf a b p') (leaf c d q') (p', q') r (both x (l₁, h₁, refl) (l₂, h₂, refl)) h
  together a b c d p' q' r false e h = absurd (Memᴰ.not-nil h)

  pub moves_sound : (s t : Shape A) (r : A × A) → Memᴰ r (moves p q s t) → Moved p q s t r.0 r.1
  moves_sound stop stop r h = absurd (Memᴰ.not-nil h)
  moves_sound stop (to q') r h = only stop (to q') (p, q') r (second tt refl refl) h
  moves_sound stop (fork q' q'') r h = of_two stop (fork q' q'') (p, q') (p, q'') r (second tt (inl refl) refl) (second tt (inr refl) refl) h
  moves_sound stop (leaf c d q') r h = absurd (Memᴰ.not-nil h)
  moves_sound (to p') t r h = only (to p') t (p', q) r (first refl refl) h
  moves_sound (fork p' p'') t r h = of_two (fork p' p'') t (p', q) (p'', q) r (first (inl refl) refl) (first (inr refl) refl) h
  moves_sound (leaf a b p') stop r h = absurd (Memᴰ.not-nil h)
  moves_sound (leaf a b p') (to q') r h = only (leaf a b p') (to q') (p, q') r (second tt refl refl) h
  moves_sound (leaf a b p') (fork q' q'') r h = of_two (leaf a b p') (fork q' q'') (p, q') (p, q'') r (second tt (inl refl) refl) (second tt (inr refl) refl) h
  moves_sound (leaf a b p') (leaf c d q') r h = together a b c d p' q' r (overlap a b c d) refl h

  moves_first : (s t : Shape A) (p' : A) → Silent s p' → Memᴰ (p', q) (moves p q s t)
  moves_first stop t p' m = absurd m
  moves_first (to r) t p' e = Memᴰ.head (ap (λ z. (z, q)) e)
  moves_first (fork r r') t p' (inl e) = Memᴰ.head (ap (λ z. (z, q)) e)
  moves_first (fork r r') t p' (inr e) = Memᴰ.tail (Memᴰ.head (ap (λ z. (z, q)) e))
  moves_first (leaf a b r) t p' m = absurd m

  moves_second : (s t : Shape A) (q' : A) → Waits s → Silent t q' → Memᴰ (p, q') (moves p q s t)
  moves_second stop stop q' w m = absurd m
  moves_second stop (to r) q' w e = Memᴰ.head (ap (λ z. (p, z)) e)
  moves_second stop (fork r r') q' w (inl e) = Memᴰ.head (ap (λ z. (p, z)) e)
  moves_second stop (fork r r') q' w (inr e) = Memᴰ.tail (Memᴰ.head (ap (λ z. (p, z)) e))
  moves_second stop (leaf c d r) q' w m = absurd m
  moves_second (to s) t q' w m = absurd w
  moves_second (fork s s') t q' w m = absurd w
  moves_second (leaf a b s) stop q' w m = absurd m
  moves_second (leaf a b s) (to r) q' w e = Memᴰ.head (ap (λ z. (p, z)) e)
  moves_second (leaf a b s) (fork r r') q' w (inl e) = Memᴰ.head (ap (λ z. (p, z)) e)
  moves_second (leaf a b s) (fork r r') q' w (inr e) = Memᴰ.tail (Memᴰ.head (ap (λ z. (p, z)) e))
  moves_second (leaf a b s) (leaf c d r) q' w m = absurd m

  moves_both : (s t : Shape A) (x : ℕ) (p' q' : A) → Reads s x p' → Reads t x q' → Memᴰ (p', q') (moves p q s t)
  moves_both stop t x p' q' m n = absurd m
  moves_both (to s) t x p' q' m n = absurd m
  moves_both (fork s s') t x p' q' m n = absurd m
  moves_both (leaf a b s) stop x p' q' m n = absurd n
  moves_both (leaf a b s) (to r) x p' q' m n = absurd n
  moves_both (leaf a b s) (fork r r') x p' q' m n = absurd n
  moves_both (leaf a b s) (leaf c d r) x p' q' m n = rw (overlap_complete a b c d x m.0 m.1 n.0 n.1, m.2, n.2) (Memᴰ.head refl)

  pub moves_complete : (s t : Shape A) (p' q' : A) → Moved p q s t p' q' → Memᴰ (p', q') (moves p q s t)
  moves_complete s t p' q' (first m e) = rw e (moves_first s t p' m)
  moves_complete s t p' q' (second w m e) = rw e (moves_second s t q' w m)
  moves_complete s t p' q' (both x m n) = moves_both s t x p' q' m n
