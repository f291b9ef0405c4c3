-- A literal, written byte by byte: each byte but the last has a tag before it that joins it to the rest.
use Rattle.std.proofs.Common.{◌≡◌, ℕ, ◌+◌, ◌<◌, ◌≤◌, List, [], ◌∷◌, ◌++◌, length, get_or, take, sym, refl, ap, ◌∙◌, subst, arith}
use Rattle.std.proofs.lemmas.List.{take_more, take_all}
use Rattle.lens.specs.Forms.{one}
use Rattle.rows.specs.Rows.{form_row}
use Rattle.notation.specs.declared.row.Row.{Row}
use Rattle.notation.specs.Written.{Grown, spelled}
use Rattle.notation.proofs.Building.{behind}

-- ---- a row that grows at its end

pub grown_then : (x y : List ℕ) {p q r : Row} → Grown p q (λ s. s ++ x) → Grown q r (λ s. s ++ y) → Grown p r (λ s. s ++ (x ++ y))
grown_then x y g h = record { grows = omega (arith, g.grows, h.grows); becomes = behind x y g.becomes h.becomes }

pub grown_as : {p q : Row} {x y : List ℕ} → x ≡ y → Grown p q (λ s. s ++ x) → Grown p q (λ s. s ++ y)
grown_as {p = p} {q = q} e g = let P : List ℕ → Type 0 = λ t. Grown p q (λ s. s ++ t) in subst P e g

-- ---- the bytes that something else follows

abbrev pub letters : List ℕ → List ℕ
letters [] = []
letters (x ∷ xs) = 2 ∷ 1 ∷ x ∷ x ∷ letters xs

letters-++ : (xs ys : List ℕ) → letters (xs ++ ys) ≡ letters xs ++ letters ys
letters-++ [] ys = refl
letters-++ (x ∷ xs) ys = ap (λ r. 2 ∷ 1 ∷ x ∷ x ∷ r) (letters-++ xs ys)

pub letters_more : (xs : List ℕ) (i : ℕ) → i < length xs → letters (take i xs) ++ (2 ∷ 1 ∷ get_or xs i 0 ∷ get_or xs i 0 ∷ []) ≡ letters (take (i + 1) xs)
letters_more xs i h = sym (ap letters (take_more xs i 0 h) ∙ letters-++ (take i xs) (get_or xs i 0 ∷ []))

letters_last : (front : List ℕ) (last : ℕ) → letters front ++ form_row (one last last) ≡ form_row (spelled (front ++ last ∷ []))
letters_last [] last = refl
letters_last (x ∷ []) last = refl
letters_last (x ∷ y ∷ ys) last = ap (λ r. 2 ∷ 1 ∷ x ∷ x ∷ r) (letters_last (y ∷ ys) last)

-- ---- the whole literal

pub spelled_all : (xs front : List ℕ) (last i : ℕ) → xs ≡ front ++ last ∷ [] → length front ≤ i → letters (take i front) ++ form_row (one last last) ≡ form_row (spelled xs)
spelled_all xs front last i e h =
    ap (λ t. letters t ++ form_row (one last last)) (take_all i front h) ∙ letters_last front last ∙ ap (λ t. form_row (spelled t)) (sym e)
