-- It can be told whether one node of a finite graph is reached from another: by Warshall's induction on the list
-- of the nodes that a path may come by. Not here: an algorithm to run.
use Rattle.std.proofs.Common.{◌≡◌, ◌⊎◌, List, [], ◌∷◌, refl, subst, inl, inr}
use mathlib.Core.List.Memᴰ
use mathlib.Core.List.{Memᴰ}
use Rattle.reach.specs.Reach.{Reach, here, step}
use Rattle.reach.proofs.Paths.{reach_join}

-- It can be told whether P holds.
abbrev pub Decided : Type 0 → Type 0
Decided P = P ⊎ (P → ⊥)

pub decided_either : {P Q : Type 0} → Decided P → Decided Q → Decided (P ⊎ Q)
decided_either (inl p) q = inl (inl p)
decided_either (inr p) (inl q) = inl (inr q)
decided_either (inr p) (inr q) = inr (λ h. elim h [ inl x ↦ p x | inr y ↦ q y ])

pub decided_both : {P Q : Type 0} → Decided P → Decided Q → Decided (P × Q)
decided_both (inl p) (inl q) = inl (p, q)
decided_both (inl p) (inr q) = inr (λ h. q h.1)
decided_both (inr p) q = inr (λ h. p h.0)

module _ {A : Type 0} (E : A → A → Type 0) where
  -- A path from a to b that comes by nodes of the list alone, and by each of them once at most.
  abbrev Via : List A → A → A → Type 0
  Via [] a b = (a ≡ b) ⊎ E a b
  Via (x ∷ l) a b = Via l a b ⊎ (Via l a x × Via l x b)

  via_sound : (l : List A) (a b : A) → Via l a b → Reach E a b
  via_sound [] a b (inl e) = subst (λ z. Reach E a z) e here
  via_sound [] a b (inr e) = step e here
  via_sound (x ∷ l) a b (inl h) = via_sound l a b h
  via_sound (x ∷ l) a b (inr h) = reach_join (via_sound l a x h.0) (via_sound l x b h.1)

  via_none : (l : List A) (a : A) → Via l a a
  via_none [] a = inl refl
  via_none (x ∷ l) a = inl (via_none l a)

  via_one : (l : List A) (a b : A) → E a b → Via l a b
  via_one [] a b e = inr e
  via_one (x ∷ l) a b e = inl (via_one l a b e)

  -- Two paths that meet at a node of the list are one path: cut what lies between two visits of x.
  before : (l : List A) (a x : A) → Via (x ∷ l) a x → Via l a x
  before l a x (inl h) = h
  before l a x (inr h) = h.0

  after : (l : List A) (x b : A) → Via (x ∷ l) x b → Via l x b
  after l x b (inl h) = h
  after l x b (inr h) = h.1

  join_off : (l : List A) (x a c b : A) → ((a b : A) → Via l a c → Via l c b → Via l a b) → Via (x ∷ l) a c → Via (x ∷ l) c b →
      Via (x ∷ l) a b
  join_off l x a c b ih (inl h) (inl k) = inl (ih a b h k)
  join_off l x a c b ih (inl h) (inr k) = inr (ih a x h k.0, k.1)
  join_off l x a c b ih (inr h) (inl k) = inr (h.0, ih x b h.1 k)
  join_off l x a c b ih (inr h) (inr k) = inr (h.0, k.1)

  via_join : (l : List A) (a c b : A) → Memᴰ c l → Via l a c → Via l c b → Via l a b
  via_join [] a c b m h k = absurd (Memᴰ.not-nil m)
  via_join (x ∷ l) a c b m h k =
      elim (Memᴰ.cases_cons m) [
        | inl e ↦ inr (before l a x (subst (λ z. Via (x ∷ l) a z) e h), after l x b (subst (λ z. Via (x ∷ l) z b) e k))
        | inr i ↦ join_off l x a c b (λ a' b' h' k'. via_join l a' c b' i h' k') h k
      ]

  via_complete : (l : List A) → ((a b : A) → Memᴰ a l → E a b → Memᴰ b l) → {a b : A} → Memᴰ a l → Reach E a b → Via l a b
  via_complete l kept {a} m here = via_none l a
  via_complete l kept {a} {b} m (step {b = c} e h) = let i = kept a c m e in via_join l a c b i (via_one l a c e) (via_complete l kept i h)

  via_decided : ((a b : A) → Decided (a ≡ b)) → ((a b : A) → Decided (E a b)) → (l : List A) (a b : A) → Decided (Via l a b)
  via_decided same edge [] a b = decided_either (same a b) (edge a b)
  via_decided same edge (x ∷ l) a b = decided_either (via_decided same edge l a b) (decided_both (via_decided same edge l a x) (via_decided same edge l x b))

  -- Equality and edges can be told, and the list has a and, with each node, all that its edges lead to.
  pub reach_decided : ((a b : A) → Decided (a ≡ b)) → ((a b : A) → Decided (E a b)) → (l : List A) →
      ((a b : A) → Memᴰ a l → E a b → Memᴰ b l) → (a b : A) → Memᴰ a l → Decided (Reach E a b)
  reach_decided same edge l kept a b m = elim (via_decided same edge l a b) [ inl h ↦ inl (via_sound l a b h) | inr h ↦ inr (λ k. h (via_complete l kept m k)) ]
