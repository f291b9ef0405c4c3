-- What a text begins with, and what it fits, can be told: one of the two, a proof or a refutation.
use Rattle.std.proofs.Common.{ℕ, ◌≤◌, ◌⊎◌, [], ◌∷◌, refl, inl, inr, arith}
use Rattle.std.proofs.lemmas.Bool.{cases_lt}
use Rattle.lens.specs.Forms.{Text, Form, empty, one, seq, or, many, Matches, is_empty, is_seq, is_left, is_right, is_none}
use Rattle.lens.proofs.Texts.{cons_not_nil}
use Rattle.trees.specs.Tree.{Stack, Fits, fits_none, Begins}
use Rattle.trees.proofs.Begins.{begins_end, fits_nil_complete, fits_cons_sound, fits_cons_complete, one_not_empty, seq_empty_complete, or_empty_complete, begins_empty_complete, begins_one_sound, begins_one_complete, begins_seq_sound, begins_seq_complete, begins_or_sound, begins_or_complete, begins_many_sound, begins_many_complete}

abbrev pub Told : Type 0 → Type 0
Told P = P ⊎ (P → ⊥)

told_like : {P Q : Type 0} → (P → Q) → (Q → P) → Told P → Told Q
told_like there back (inl p) = inl (there p)
told_like there back (inr none) = inr (λ q. none (back q))

told_and : {P Q : Type 0} → Told P → Told Q → Told (P × Q)
told_and (inl p) (inl q) = inl (p, q)
told_and (inl p) (inr none) = inr (λ h. none h.1)
told_and (inr none) told = inr (λ h. none h.0)

told_or : {P Q : Type 0} → Told P → Told Q → Told (P ⊎ Q)
told_or (inl p) told = inl (inl p)
told_or (inr no_p) (inl q) = inl (inr q)
told_or (inr no_p) (inr no_q) = inr (λ h. elim h [ inl p ↦ no_p p | inr q ↦ no_q q ])

told_le : (a b : ℕ) → Told (a ≤ b)
told_le a b = elim (cases_lt b a) [ inl less ↦ inr (λ l. omega arith) | inr none ↦ inl (omega arith) ]

-- The empty text

pub either : {f g : Form} → Matches f [] ⊎ Matches g [] → Matches (or f g) []
either (inl m) = is_left m
either (inr m) = is_right m

pub told_empty : (f : Form) → Told (Matches f [])
told_empty empty = inl is_empty
told_empty (one a b) = inr one_not_empty
told_empty (seq f g) = told_like (λ h. is_seq [] [] h.0 h.1) seq_empty_complete (told_and (told_empty f) (told_empty g))
told_empty (or f g) = told_like either or_empty_complete (told_or (told_empty f) (told_empty g))
told_empty (many f) = inl is_none

-- A text with a byte before it, once the text itself is told

module _ (t : Text) (rest : (σ : Stack) → Told (Fits σ t)) (c : ℕ) where
  told_before : (f : Form) (σ : Stack) → Told (Begins f σ (c ∷ t))
  told_before empty σ = inr begins_empty_complete
  told_before (one a b) σ =
      told_like (λ h. begins_one_sound (h.0, h.1.0, h.1.1)) (λ b. let h = begins_one_complete b in (h.0, (h.1, h.2)))
      (told_and (told_le a c) (told_and (told_le c b) (rest σ)))
  told_before (seq f g) σ =
      told_like begins_seq_sound begins_seq_complete
      (told_or (told_before f (g ∷ σ)) (told_and (told_empty f) (told_before g σ)))
  told_before (or f g) σ = told_like begins_or_sound begins_or_complete (told_or (told_before f σ) (told_before g σ))
  told_before (many f) σ = told_like begins_many_sound begins_many_complete (told_before f (many f ∷ σ))

pub told_fits : (t : Text) (σ : Stack) → Told (Fits σ t)
told_fits [] [] = inl fits_none
told_fits [] (f ∷ σ) =
    told_like fits_cons_sound fits_cons_complete (told_or (inr (begins_end refl)) (told_and (told_empty f) (told_fits [] σ)))
told_fits (c ∷ t) [] = inr (λ fit. cons_not_nil (fits_nil_complete fit))
told_fits (c ∷ t) (f ∷ σ) =
    told_like fits_cons_sound fits_cons_complete
    (told_or (told_before t (λ σ. told_fits t σ) c f σ) (told_and (told_empty f) (told_fits (c ∷ t) σ)))

pub told_begins : (f : Form) (σ : Stack) (t : Text) → Told (Begins f σ t)
told_begins f σ [] = inr (begins_end refl)
told_begins f σ (c ∷ t) = told_before t (told_fits t) c f σ
