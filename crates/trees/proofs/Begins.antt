-- When a text begins with a part that is not empty, by the form of the part; and when it fits a stack.
-- Each has a pair: `-sound` from the parts of the form to the form, `-complete` back.
-- Not here: trees (Within, Right).
use Rattle.std.proofs.Common.{◌≡◌, ℕ, ◌≤◌, ◌⊎◌, [], ◌∷◌, ◌++◌, sym, refl, subst, inl, inr, append_assoc, append-nil, le_antisymm, arith}
use Rattle.lens.specs.Forms.{Text, Form, empty, one, seq, or, many, Matches, is_one, is_seq, is_left, is_right, is_none, is_more}
use Rattle.lens.proofs.Inversions.{on_empty, on_one, on_seq, on_or, many_fold}
use Rattle.lens.proofs.Texts.{cons_not_nil}
use Rattle.trees.specs.Tree.{Stack, Fits, fits_none, fits_more, Begins, begins}

-- Texts that are not empty

abbrev pub Some : Text → Type 0
Some [] = ⊥
Some (c ∷ u) = Unit {0}

some_more : (u v : Text) → Some u → Some (u ++ v)
some_more [] v some = absurd some
some_more (c ∷ u) v some = tt

pub begins_some : {f : Form} {σ : Stack} (u v : Text) → Some u → Matches f u → Fits σ v → Begins f σ (u ++ v)
begins_some [] v some m fit = absurd some
begins_some (c ∷ u) v some m fit = begins c u v m fit

-- To show P of a text that begins so, show it of its two parts.
pub on_begins : {f : Form} {σ : Stack} {t : Text} (P : Text → Type 0) → Begins f σ t →
    ((u v : Text) → Some u → Matches f u → Fits σ v → P (u ++ v)) → P t
on_begins P (begins c u v m fit) h = h (c ∷ u) v tt m fit

pub on_fits : {f : Form} {σ : Stack} {t : Text} (P : Text → Type 0) → Fits (f ∷ σ) t →
    ((u v : Text) → Matches f u → Fits σ v → P (u ++ v)) → P t
on_fits P (fits_more u v m fit) h = h u v m fit

-- Nothing begins at the end of a text.
pub begins_end : {f : Form} {σ : Stack} {t : Text} → t ≡ [] → Begins f σ t → ⊥
begins_end e (begins c u v m fit) = cons_not_nil e

-- Stacks

pub fits_nil_sound : {t : Text} → t ≡ [] → Fits [] t
fits_nil_sound e = subst (Fits []) (sym e) fits_none

pub fits_nil_complete : {t : Text} → Fits [] t → t ≡ []
fits_nil_complete fits_none = refl

-- A text of the first form begins, or it may be empty and the others fit.
abbrev pub ConsFits : Form → Stack → Text → Type 0
ConsFits f σ t = Begins f σ t ⊎ (Matches f [] × Fits σ t)

pub fits_cons_sound : {f : Form} {σ : Stack} {t : Text} → ConsFits f σ t → Fits (f ∷ σ) t
fits_cons_sound {f} {σ} (inl b) = on_begins (Fits (f ∷ σ)) b (λ u v some m fit. fits_more u v m fit)
fits_cons_sound (inr h) = fits_more [] _ h.0 h.1

pub fits_cons_complete : {f : Form} {σ : Stack} {t : Text} → Fits (f ∷ σ) t → ConsFits f σ t
fits_cons_complete {f} {σ} fit = on_fits (ConsFits f σ) fit split
  where
    split : (u v : Text) → Matches f u → Fits σ v → ConsFits f σ (u ++ v)
    split [] v m fit = inr (m, fit)
    split (c ∷ u) v m fit = inl (begins c u v m fit)

-- Any number of parts may be none.
pub fits_many_sound : {f : Form} {σ : Stack} {t : Text} → Begins (many f) σ t ⊎ Fits σ t → Fits (many f ∷ σ) t
fits_many_sound (inl b) = fits_cons_sound (inl b)
fits_many_sound (inr fit) = fits_cons_sound (inr (is_none, fit))

pub fits_many_complete : {f : Form} {σ : Stack} {t : Text} → Fits (many f ∷ σ) t → Begins (many f) σ t ⊎ Fits σ t
fits_many_complete fit = elim (fits_cons_complete fit) [ inl b ↦ inl b | inr h ↦ inr h.1 ]

-- Two texts, one after the other, fit two stacks, one after the other.
pub fits_append : {σ τ : Stack} {u v : Text} → Fits σ u → Fits τ v → Fits (σ ++ τ) (u ++ v)
fits_append fits_none fit = fit
fits_append {σ = f ∷ σ} {τ} {v = w} (fits_more u v m rest) fit =
    subst (Fits (f ∷ (σ ++ τ))) (sym (append_assoc u v w)) (fits_more u (v ++ w) m (fits_append rest fit))

-- The empty text

pub one_not_empty : {a b : ℕ} → Matches (one a b) [] → ⊥
one_not_empty m = on_one (λ u. u ≡ [] → ⊥) m (λ x low high e. cons_not_nil e) refl

pub seq_empty_complete : {f g : Form} → Matches (seq f g) [] → Matches f [] × Matches g []
seq_empty_complete {f} {g} m = on_seq (λ u. u ≡ [] → Matches f [] × Matches g []) m both refl
  where
    both : (u v : Text) → Matches f u → Matches g v → u ++ v ≡ [] → Matches f [] × Matches g []
    both [] v m n e = (m, subst (Matches g) e n)
    both (c ∷ u) v m n e = cons_not_nil e

pub or_empty_complete : {f g : Form} → Matches (or f g) [] → Matches f [] ⊎ Matches g []
or_empty_complete {f} {g} m = on_or (λ u. Matches f u ⊎ Matches g u) m inl inr

-- Forms, as they stand first on a stack

pub begins_empty_complete : {σ : Stack} {t : Text} → Begins empty σ t → ⊥
begins_empty_complete b = on_begins (λ _. ⊥) b (λ u v some m fit. on_empty (λ u. Some u → ⊥) m (λ none. none) some)

-- `Eats a b P t`: t has a byte from a to b, and P holds of the rest.
abbrev pub Eats : ℕ → ℕ → (Text → Type 0) → Text → Type 0
Eats a b P [] = ⊥
Eats a b P (c ∷ t) = (a ≤ c) × (c ≤ b) × P t

pub begins_one_sound : {a b c : ℕ} {σ : Stack} {t : Text} → Eats a b (Fits σ) (c ∷ t) → Begins (one a b) σ (c ∷ t)
begins_one_sound h = begins _ [] _ (is_one h.0 h.1) h.2

pub begins_one_complete : {a b : ℕ} {σ : Stack} {t : Text} → Begins (one a b) σ t → Eats a b (Fits σ) t
begins_one_complete {a} {b} {σ} h =
    on_begins (Eats a b (Fits σ)) h (λ u v some m fit.
    on_one (λ u. Eats a b (Fits σ) (u ++ v)) m (λ x low high. (low, high, fit)))

-- The first part begins, or it may be empty and the second one begins.
abbrev pub SeqBegins : Form → Form → Stack → Text → Type 0
SeqBegins f g σ t = Begins f (g ∷ σ) t ⊎ (Matches f [] × Begins g σ t)

pub begins_seq_sound : {f g : Form} {σ : Stack} {t : Text} → SeqBegins f g σ t → Begins (seq f g) σ t
begins_seq_sound {f} {g} {σ} (inl b) =
    on_begins (Begins (seq f g) σ) b (λ u v some m fit.
    on_fits (λ v. Begins (seq f g) σ (u ++ v)) fit (λ w v n fit.
    subst (Begins (seq f g) σ) (append_assoc u w v) (begins_some (u ++ w) v (some_more u w some) (is_seq u w m n) fit)))
begins_seq_sound {f} {g} {σ} (inr h) =
    on_begins (Begins (seq f g) σ) h.1 (λ u v some m fit. begins_some u v some (is_seq [] u h.0 m) fit)

pub begins_seq_complete : {f g : Form} {σ : Stack} {t : Text} → Begins (seq f g) σ t → SeqBegins f g σ t
begins_seq_complete {f} {g} {σ} b =
    on_begins (SeqBegins f g σ) b (λ u v some m fit.
    on_seq (λ u. Some u → SeqBegins f g σ (u ++ v)) m (λ u w m n. split u w v m n fit) some)
  where
    split : (u w v : Text) → Matches f u → Matches g w → Fits σ v → Some (u ++ w) → SeqBegins f g σ ((u ++ w) ++ v)
    split [] w v m n fit some = inr (m, begins_some w v some n fit)
    split (c ∷ u) w v m n fit some =
        inl (subst (Begins f (g ∷ σ)) (sym (append_assoc (c ∷ u) w v)) (begins c u (w ++ v) m (fits_more w v n fit)))

pub begins_or_sound : {f g : Form} {σ : Stack} {t : Text} → Begins f σ t ⊎ Begins g σ t → Begins (or f g) σ t
begins_or_sound {f} {g} {σ} (inl b) = on_begins (Begins (or f g) σ) b (λ u v some m fit. begins_some u v some (is_left m) fit)
begins_or_sound {f} {g} {σ} (inr b) = on_begins (Begins (or f g) σ) b (λ u v some m fit. begins_some u v some (is_right m) fit)

pub begins_or_complete : {f g : Form} {σ : Stack} {t : Text} → Begins (or f g) σ t → Begins f σ t ⊎ Begins g σ t
begins_or_complete {f} {g} {σ} b =
    on_begins (λ t. Begins f σ t ⊎ Begins g σ t) b (λ u v some m fit.
    on_or (λ u. Some u → Begins f σ (u ++ v) ⊎ Begins g σ (u ++ v)) m
    (λ m some. inl (begins_some u v some m fit))
    (λ m some. inr (begins_some u v some m fit)) some)

pub begins_many_sound : {f : Form} {σ : Stack} {t : Text} → Begins f (many f ∷ σ) t → Begins (many f) σ t
begins_many_sound {f} {σ} b =
    on_begins (Begins (many f) σ) b (λ u v some m fit.
    on_fits (λ v. Begins (many f) σ (u ++ v)) fit (λ w v n fit.
    subst (Begins (many f) σ) (append_assoc u w v) (begins_some (u ++ w) v (some_more u w some) (is_more u w m n) fit)))

pub begins_many_complete : {f : Form} {σ : Stack} {t : Text} → Begins (many f) σ t → Begins f (many f ∷ σ) t
begins_many_complete {f} {σ} b =
    on_begins (Begins f (many f ∷ σ)) b (λ u v some m fit.
    many_fold (λ u. Some u → Begins f (many f ∷ σ) (u ++ v)) m (λ none. absurd none) (λ u w m n. first u w v m n fit) some)
  where
    first : (u w v : Text) → Matches f u → Matches (many f) w → Fits σ v → (Some w → Begins f (many f ∷ σ) (w ++ v)) →
        Some (u ++ w) → Begins f (many f ∷ σ) ((u ++ w) ++ v)
    first [] w v m n fit rest some = rest some
    first (c ∷ u) w v m n fit rest some =
        subst (Begins f (many f ∷ σ)) (sym (append_assoc (c ∷ u) w v)) (begins c u (w ++ v) m (fits_more w v n fit))

-- One byte, and then a text of the form f.
pub begins_byte_sound : {b c : ℕ} {f : Form} {σ : Stack} {t : Text} → (c ≡ b) × Fits (f ∷ σ) t → Begins (seq (one b b) f) σ (c ∷ t)
begins_byte_sound h = begins_seq_sound (inl (begins_one_sound (omega (arith, h.0), omega (arith, h.0), h.1)))

pub begins_byte_complete : {b c : ℕ} {f : Form} {σ : Stack} {t : Text} → Begins (seq (one b b) f) σ (c ∷ t) → (c ≡ b) × Fits (f ∷ σ) t
begins_byte_complete {b} {c} h =
    elim (begins_seq_complete h) [
      | inl first ↦ let eats = begins_one_complete first in (le_antisymm eats.1 eats.0, eats.2)
      | inr none ↦ absurd (one_not_empty none.0)
    ]

-- The whole text

-- A text that is not empty is of a form if it begins with the form and nothing stands behind.
pub begins_whole_sound : {f : Form} {t : Text} → Begins f [] t → Matches f t
begins_whole_sound {f} b =
    on_begins (Matches f) b (λ u v some m fit. subst (λ v. Matches f (u ++ v)) (sym (fits_nil_complete fit)) (rw append-nil m))

pub begins_whole_complete : {f : Form} (t : Text) → Some t → Matches f t → Begins f [] t
begins_whole_complete {f} t some m = subst (Begins f []) (append-nil t) (begins_some t [] some m fits_none)
