-- What the bytes at one place of a row say: which node stands there, or that nothing begins there.
use Rattle.std.proofs.Common.{◌≡◌, ℕ, suc, ◌+◌, ◌<◌, ◌≤◌, ◌⊎◌, List, [], ◌∷◌, ◌++◌, length, get_or, take, drop, sym, refl, ap, ◌∙◌, subst, ap₂, add_assoc, arith, length-drop, take-append-drop, length-take-le, get_or-drop, get_or-take, drop-drop}
use Rattle.std.proofs.lemmas.List.{drop_more, drop_all}
use Rattle.lens.specs.Forms.{Text, Form}
use Rattle.lens.specs.Views.{View}
use Rattle.rows.specs.Rows.{form_row, view_row, text_row, FormFine, ViewFine, TextFine, AllBytes}
use Rattle.rows.specs.Stands.{Stands, Nowhere, Heads}
use Rattle.rows.proofs.Tags.{undo_one, form_tag, view_tag}

-- The tag at a place
pub heads_tag : (s : List ℕ) (at t : ℕ) → at < length s → get_or s at 0 ≡ t → Heads s at (t ∷ [])
heads_tag s at t h e = record { laid = drop_more s at 0 h ∙ ap (λ x. x ∷ drop (at + 1) s) e; within = omega arith }

-- Nothing begins behind the end.
module _ {A : Type 0} (row : A → List ℕ) (fine : A → Type 0) (some : (x : A) (r : List ℕ) → [] ≡ row x ++ r → ⊥) where
  pub nowhere_end : (s : List ℕ) (at : ℕ) → length s ≤ at → Nowhere row fine s at
  nowhere_end s at h = record { never = λ x r f e. some x r (sym (drop_all at s h) ∙ e) }

nil_cons : {x : ℕ} {u v : List ℕ} (w : List ℕ) → v ≡ x ∷ u → [] ≡ v ++ w → ⊥
nil_cons {x} {u} {v} w e n = let z : ◌≡◌ {A = List ℕ} [] (x ∷ (u ++ w)) = n ∙ ap (λ y. y ++ w) e in let bad : ◌≡◌ {A = ℕ} 0 1 = cc in omega arith

pub form_some : (x : Form) (r : List ℕ) → [] ≡ form_row x ++ r → ⊥
form_some x r e = nil_cons r (form_tag x).2 e

pub view_some : (x : View) (r : List ℕ) → [] ≡ view_row x ++ r → ⊥
view_some x r e = nil_cons r (view_tag x).2 e

pub text_some : (x : Text) (r : List ℕ) → [] ≡ text_row x ++ r → ⊥
text_some x r e = nil_cons {v = text_row x} r refl e

-- Nothing begins with a tag that is none of its own.
first : {x y : ℕ} {u v w : List ℕ} (r : List ℕ) → v ≡ y ∷ w → x ∷ u ≡ v ++ r → x ≡ y
first {x} {y} {u} {v} {w} r h e = let z : x ∷ u ≡ y ∷ (w ++ r) = e ∙ ap (λ q. q ++ r) h in cc

pub nowhere_form : (s : List ℕ) (at : ℕ) → at < length s → 4 < get_or s at 0 → Nowhere form_row FormFine s at
nowhere_form s at h t = record {
  never = λ x r f e. let g = form_tag x in let same : get_or s at 0 ≡ g.0 = first r g.2 (sym (drop_more s at 0 h) ∙ e) in omega arith;
}

pub nowhere_view : (s : List ℕ) (at : ℕ) → at < length s → (get_or s at 0 < 10) ⊎ (15 < get_or s at 0) → Nowhere view_row ViewFine s at
nowhere_view s at h t = record {
  never = λ x r f e. let g = view_tag x in let same : get_or s at 0 ≡ g.0 = first r g.2 (sym (drop_more s at 0 h) ∙ e) in omega arith;
}

-- A range has two bytes behind its tag.
pub heads_range : (s : List ℕ) (at : ℕ) → at + 3 ≤ length s → get_or s at 0 ≡ 1 → Heads s at (1 ∷ get_or s (at + 1) 0 ∷ get_or s (at + 2) 0 ∷ [])
heads_range s at h e = record {
  laid =
      (heads_tag s at 1 (omega arith) e).laid
      ∙ ap (λ r. 1 ∷ r) (drop_more s (at + 1) 0 (omega arith) ∙ ap (λ k. get_or s (at + 1) 0 ∷ drop k s) (add_assoc at 1 1))
      ∙ ap (λ r. 1 ∷ get_or s (at + 1) 0 ∷ r) (drop_more s (at + 2) 0 (omega arith) ∙ ap (λ k. get_or s (at + 2) 0 ∷ drop k s) (add_assoc at 2 1));
  within = h;
}

pub nowhere_short : (s : List ℕ) (at : ℕ) → at < length s → get_or s at 0 ≡ 1 → length s < at + 3 → Nowhere form_row FormFine s at
nowhere_short s at h t short = record {
  never = λ x r f e.
      let u = undo_one x (drop (at + 1) s) r (sym (heads_tag s at 1 h t).laid ∙ e) in
      omega (arith, ap length u.2, length-drop (at + 1) s);
}

pub nowhere_down : (s : List ℕ) (at : ℕ) → at + 3 ≤ length s → get_or s at 0 ≡ 1 → get_or s (at + 2) 0 < get_or s (at + 1) 0 → Nowhere form_row FormFine s at
nowhere_down s at h t down = record {
  never = λ x r f e.
      let u = undo_one x _ r (sym (heads_range s at h t).laid ∙ e) in
      let low : get_or s (at + 1) 0 ≡ u.0.0 = cc u.2 in
      let high : get_or s (at + 2) 0 ≡ u.0.1 = cc u.2 in
      let fine : (u.0.0 ≤ u.0.1) × (u.0.1 < 256) = subst FormFine u.1 f in
      omega arith;
}

-- A text has as many bytes behind its length as that says.
all_bytes : (v : List ℕ) → ((i : ℕ) → i < length v → get_or v i 0 < 256) → AllBytes v
all_bytes [] h = tt
all_bytes (x ∷ v) h = (h 0 (omega arith), all_bytes v (λ i l. h (suc i) (omega arith)))

module _ (s : List ℕ) (at : ℕ) (h : at < length s) where
  pub stands_text : ((i : ℕ) → get_or s i 0 < 256) → at + 1 + get_or s at 0 ≤ length s → Stands text_row TextFine s at (at + 1 + get_or s at 0)
  stands_text bytes fits =
      let n : ℕ = get_or s at 0 in
      let v : List ℕ = take n (drop (at + 1) s) in
      let long : length v ≡ n = length-take-le n (drop (at + 1) s) (omega (arith, length-drop (at + 1) s)) in
      record {
        thing = v;
        sound = (subst (λ k. k < 256) (sym long) (bytes at), all_bytes v (λ i l. rw (get_or-take n (drop (at + 1) s) i 0 (subst (λ k. i < k) long l), get_or-drop (at + 1) s i 0) (bytes (at + 1 + i))));
        less = omega arith;
        within = fits;
        laid = (heads_tag s at n h refl).laid ∙ ap₂ ◌∷◌ (sym long) (sym (take-append-drop n (drop (at + 1) s)) ∙ ap (λ r. v ++ r) (drop-drop n (at + 1) s));
      }
