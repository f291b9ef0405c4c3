-- Reachability: one way after another, along more edges, and what edges keep.
use Rattle.reach.specs.Reach.{Reach, here, step}

pub reach_join : {A : Type 0} {E : A → A → Type 0} {a b c : A} → Reach E a b → Reach E b c → Reach E a c
reach_join here q = q
reach_join (step e p) q = step e (reach_join p q)

-- Where each edge of E is one of F
pub reach_along : {A : Type 0} {E F : A → A → Type 0} {a b : A} → ((x y : A) → E x y → F x y) → Reach E a b → Reach F a b
reach_along sub here = here
reach_along sub (step e p) = step (sub _ _ e) (reach_along sub p)

-- What each edge keeps holds of whatever is reached
pub reach_keeps : {A : Type 0} {E : A → A → Type 0} {a b : A} (P : A → Type 0) → ((x y : A) → E x y → P x → P y) → Reach E a b → P a → P b
reach_keeps P keep here h = h
reach_keeps P keep (step e p) h = reach_keeps P keep p (keep _ _ e h)
