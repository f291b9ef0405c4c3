-- What a text of a form is made of. Each inversion hands the parts on at a variable text, so that nothing
-- has to be carried along an equation.
-- Not here: views (Lawful, Works).
use mathlib.Core.Path.{◌≡◌, subst, sym}
use mathlib.Core.List.{[], ◌∷◌, ◌++◌}
use Prim.Native.Nat.{ℕ, ◌≤◌}
use native.Mathlib.Nat.{le_refl, le_antisymm}
use Rattle.lens.specs.Forms.{Text, Form, empty, one, seq, or, many, Matches, is_empty, is_one, is_seq, is_left, is_right, is_none, is_more, exactly}
use Rattle.lens.specs.Clear.{Apart, PartsOnce}
use Rattle.lens.proofs.Texts.{append_nil_left}

-- To show P of a text of a form, show it of what such a text is made of.
module _ (P : Text → Type 0) where
  pub on_empty : {s : Text} → Matches empty s → P [] → P s
  on_empty is_empty h = h

  pub on_one : {a b : ℕ} {s : Text} → Matches (one a b) s → ((x : ℕ) → a ≤ x → x ≤ b → P (x ∷ [])) → P s
  on_one (is_one p q) h = h _ p q

  pub on_seq : {f g : Form} {s : Text} → Matches (seq f g) s → ((u v : Text) → Matches f u → Matches g v → P (u ++ v)) → P s
  on_seq (is_seq u v a b) h = h u v a b

  pub on_or : {f g : Form} {s : Text} → Matches (or f g) s → (Matches f s → P s) → (Matches g s → P s) → P s
  on_or (is_left a) h i = h a
  on_or (is_right a) h i = i a

  -- By induction over the parts.
  pub many_fold : {f : Form} {s : Text} → Matches (many f) s → P [] → ((u v : Text) → Matches f u → Matches (many f) v → P v → P (u ++ v)) → P s
  many_fold is_none h i = h
  many_fold (is_more u v a b) h i = i u v a b (many_fold b h i)

-- A text is of its own form, and no other text is.
pub exactly_matches : (v : Text) → Matches (exactly v) v
exactly_matches [] = is_empty
exactly_matches (x ∷ v) = is_seq (x ∷ []) v (is_one (le_refl x) (le_refl x)) (exactly_matches v)

pub on_exactly : (v : Text) (P : Text → Type 0) {s : Text} → Matches (exactly v) s → P v → P s
on_exactly [] P m h = on_empty P m h
on_exactly (x ∷ v) P m h =
    on_seq P m (λ u w a b.
    on_exactly v (λ w. P (u ++ w)) b
    (on_one (λ u. P (u ++ v)) a (λ y p q.
    subst (λ y. P (y ∷ v)) (le_antisymm p q) h)))

-- Two forms apart have no text in common.
pub never : {A : Type 0} {f g : Form} {u v : Text} → Apart f g → Matches f u → Matches g v → u ≡ v → A
never {g = g} apart a b e = absurd (apart _ a (subst (Matches g) (sym e) b))

-- What begins with a part is not empty.
pub not_empty : {A : Type 0} {f : Form} {u : Text} (v : Text) → PartsOnce f → Matches f u → u ++ v ≡ [] → A
not_empty {f = f} {u = u} v once a e = absurd (once.0 (subst (Matches f) (append_nil_left u v e) a))
