-- When a text fits a stack, by the form that stands first on it: what a forward pass goes by.
-- Each has a pair: `-sound` from the parts of the form to the form, `-complete` back.
-- Not here: a stack that is empty, or whose first form is any form (Begins).
use Rattle.std.proofs.Common.{ℕ, ◌⊎◌, [], ◌∷◌, ◌++◌, sym, subst, inl, inr, append_assoc}
use Rattle.lens.specs.Forms.{Text, Form, empty, one, seq, or, many, is_empty, is_one, is_seq, is_left, is_right}
use Rattle.lens.proofs.Inversions.{on_empty, on_one, on_seq, on_or}
use Rattle.trees.specs.Tree.{Stack, Fits, fits_more, Begins}
use Rattle.trees.proofs.Begins.{Eats, on_fits, fits_many_sound, fits_many_complete, begins_many_sound, begins_many_complete}

pub fits_empty_sound : {σ : Stack} {t : Text} → Fits σ t → Fits (empty ∷ σ) t
fits_empty_sound fit = fits_more _ _ is_empty fit

pub fits_empty_complete : {σ : Stack} {t : Text} → Fits (empty ∷ σ) t → Fits σ t
fits_empty_complete {σ} fit = on_fits (Fits σ) fit (λ u v m fit. on_empty (λ u. Fits σ (u ++ v)) m fit)

pub fits_one_sound : {a b : ℕ} {σ : Stack} (t : Text) → Eats a b (Fits σ) t → Fits (one a b ∷ σ) t
fits_one_sound [] eats = absurd eats
fits_one_sound (c ∷ t) eats = fits_more (c ∷ []) t (is_one eats.0 eats.1) eats.2

pub fits_one_complete : {a b : ℕ} {σ : Stack} {t : Text} → Fits (one a b ∷ σ) t → Eats a b (Fits σ) t
fits_one_complete {a} {b} {σ} fit =
    on_fits (Eats a b (Fits σ)) fit (λ u v m fit.
    on_one (λ u. Eats a b (Fits σ) (u ++ v)) m (λ x low high. (low, high, fit)))

pub fits_seq_sound : {f g : Form} {σ : Stack} {t : Text} → Fits (f ∷ g ∷ σ) t → Fits (seq f g ∷ σ) t
fits_seq_sound {f} {g} {σ} fit =
    on_fits (Fits (seq f g ∷ σ)) fit (λ u v m fit.
    on_fits (λ v. Fits (seq f g ∷ σ) (u ++ v)) fit (λ w v n fit.
    subst (Fits (seq f g ∷ σ)) (append_assoc u w v) (fits_more (u ++ w) v (is_seq u w m n) fit)))

pub fits_seq_complete : {f g : Form} {σ : Stack} {t : Text} → Fits (seq f g ∷ σ) t → Fits (f ∷ g ∷ σ) t
fits_seq_complete {f} {g} {σ} fit =
    on_fits (Fits (f ∷ g ∷ σ)) fit (λ u v m fit.
    on_seq (λ u. Fits (f ∷ g ∷ σ) (u ++ v)) m (λ u w m n.
    subst (Fits (f ∷ g ∷ σ)) (sym (append_assoc u w v)) (fits_more u (w ++ v) m (fits_more w v n fit))))

pub fits_or_sound : {f g : Form} {σ : Stack} {t : Text} → Fits (f ∷ σ) t ⊎ Fits (g ∷ σ) t → Fits (or f g ∷ σ) t
fits_or_sound {f} {g} {σ} (inl fit) = on_fits (Fits (or f g ∷ σ)) fit (λ u v m fit. fits_more u v (is_left m) fit)
fits_or_sound {f} {g} {σ} (inr fit) = on_fits (Fits (or f g ∷ σ)) fit (λ u v m fit. fits_more u v (is_right m) fit)

pub fits_or_complete : {f g : Form} {σ : Stack} {t : Text} → Fits (or f g ∷ σ) t → Fits (f ∷ σ) t ⊎ Fits (g ∷ σ) t
fits_or_complete {f} {g} {σ} fit =
    on_fits (λ t. Fits (f ∷ σ) t ⊎ Fits (g ∷ σ) t) fit (λ u v m fit.
    on_or (λ u. Fits (f ∷ σ) (u ++ v) ⊎ Fits (g ∷ σ) (u ++ v)) m (λ m. inl (fits_more u v m fit)) (λ m. inr (fits_more u v m fit)))

-- One part more that is not empty, or none.
pub fits_parts_sound : {f : Form} {σ : Stack} {t : Text} → Begins f (many f ∷ σ) t ⊎ Fits σ t → Fits (many f ∷ σ) t
fits_parts_sound (inl b) = fits_many_sound (inl (begins_many_sound b))
fits_parts_sound (inr fit) = fits_many_sound (inr fit)

pub fits_parts_complete : {f : Form} {σ : Stack} {t : Text} → Fits (many f ∷ σ) t → Begins f (many f ∷ σ) t ⊎ Fits σ t
fits_parts_complete fit = elim (fits_many_complete fit) [ inl b ↦ inl (begins_many_complete b) | inr fit ↦ inr fit ]
