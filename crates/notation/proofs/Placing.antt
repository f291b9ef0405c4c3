-- One byte more, and the line and the column behind it.
use Rattle.std.proofs.Common.{◌≡◌, ℕ, ◌+◌, ◌-◌, ◌^◌, ◌<◌, ◌≤◌, min, true, false, cond, eqb, List, [], ◌∷◌, ◌++◌, length, get_or, take, sym, refl, ap, ◌∙◌, subst, lt_of_not-le, arith, eq-eqb, ne_eqb}
use native.Mathlib.Decide.{dec_le}
use mathlib.Core.Logic.{dite}
use Rattle.std.proofs.lemmas.List.{take_more, take_all}
use Rattle.notation.specs.Places.{line_from, column_from, line_of, column_of}

-- The numbers count up to the greatest that a usize holds.
abbrev pub counted : ℕ → ℕ
counted n = min n (2 ^ 64 - 1)

pub record Behind (xs : List ℕ) (line column : ℕ) : Type 0 where
  pub line_is : line ≡ counted (line_of xs)
  pub column_is : column ≡ counted (column_of xs)

line_push : (n : ℕ) (xs : List ℕ) (x : ℕ) → line_from n (xs ++ x ∷ []) ≡ cond (eqb x 10) (line_from n xs + 1) (line_from n xs)
line_push n [] x = refl
line_push n (y ∷ ys) x = line_push (cond (eqb y 10) (n + 1) n) ys x

column_push : (n : ℕ) (xs : List ℕ) (x : ℕ) → column_from n (xs ++ x ∷ []) ≡ cond (eqb x 10) 1 (column_from n xs + 1)
column_push n [] x = refl
column_push n (y ∷ ys) x = column_push (cond (eqb y 10) 1 (n + 1)) ys x

pub behind_newline : (xs : List ℕ) (i : ℕ) {line column line' column' : ℕ} → i < length xs → get_or xs i 0 ≡ 10 → line' ≡ counted (line + 1) → column' ≡ 1 → Behind (take i xs) line column → Behind (take (i + 1) xs) line' column'
behind_newline xs i h e p q b =
    let is : eqb (get_or xs i 0) 10 ≡ true = eq-eqb _ 10 e in
    let l : line_of (take (i + 1) xs) ≡ line_of (take i xs) + 1 = rw (take_more xs i 0 h, line_push, is) in
    let k : column_of (take (i + 1) xs) ≡ 1 = rw (take_more xs i 0 h, column_push, is) in
    record { line_is = omega (arith, b.line_is, p, l); column_is = omega (arith, q, k) }

pub behind_other : (xs : List ℕ) (i : ℕ) {line column line' column' : ℕ} → i < length xs → (get_or xs i 0 ≡ 10 → ⊥) → line' ≡ line → column' ≡ counted (column + 1) → Behind (take i xs) line column → Behind (take (i + 1) xs) line' column'
behind_other xs i h n p q b =
    let is : eqb (get_or xs i 0) 10 ≡ false = ne_eqb _ 10 n in
    let l : line_of (take (i + 1) xs) ≡ line_of (take i xs) = rw (take_more xs i 0 h, line_push, is) in
    let k : column_of (take (i + 1) xs) ≡ column_of (take i xs) + 1 = rw (take_more xs i 0 h, column_push, is) in
    record { line_is = omega (arith, b.line_is, p, l); column_is = omega (arith, b.column_is, q, k) }

-- ---- the bytes before a place

at_end : (text : List ℕ) (at m i : ℕ) → m ≡ min at (length text) → length (take (m - 0) text) ≤ i → take i (take (m - 0) text) ≡ take at text
at_end text at m i e h =
    take_all i _ h ∙ dite (dec_le at (length text))
    (λ l. ap (λ k. take k text) (omega (arith, e, l)))
    (λ l. let k : length text < at = lt_of_not-le l in take_all (m - 0) text (omega (arith, e)) ∙ sym (take_all at text (omega arith)))

pub behind_all : (text : List ℕ) (at m i : ℕ) {line column : ℕ} → m ≡ min at (length text) → length (take (m - 0) text) ≤ i → Behind (take i (take (m - 0) text)) line column → Behind (take at text) line column
behind_all text at m i {line = line} {column = column} e h b =
    let P : List ℕ → Type 0 = λ xs. Behind xs line column in subst P (at_end text at m i e h) b
