-- A number with other digits in its middle, and tables of words in which one word is written so.
use Rattle.std.proofs.Common.{◌≡◌, ℕ, ◌+◌, ◌-◌, ◌*◌, ◌/◌, ◌%◌, ◌^◌, ◌<◌, ◌≤◌, eqb, ◌⊎◌, List, length, get_or, set, sym, ap, ◌∙◌, subst, inl, inr, mod-lt, arith, length-set, get_or-set_other, get_or-set_same, pow_pos, pow-add, shl_exact, shr-shr, shr_lt}
use lib.Arith.{digits_lt}
use lib.Pow.{high, low, field, mod-mod-pow}
use Rattle.std.proofs.lemmas.Nat.{one_shl}
use Rattle.std.proofs.lemmas.Bool.{cases_eq, cases_lt}
use Rattle.bits.specs.Bits.{bit, PutsBits, with_field}

-- The digits of a number whose lowest k digits are those of l
module _ (h k : ℕ) {l : ℕ} (small : l < 2 ^ k) where
  digit_high : (j : ℕ) → k ≤ j → (h * 2 ^ k + l) / 2 ^ j % 2 ≡ h / 2 ^ (j - k) % 2
  digit_high j above =
      let there : j ≡ k + (j - k) = omega arith in
      ap (λ j. (h * 2 ^ k + l) / 2 ^ j % 2) there ∙ ap (λ n. n % 2) (sym (shr-shr (h * 2 ^ k + l) k (j - k)))
      ∙ ap (λ n. n / 2 ^ (j - k) % 2) (high h k small)

-- A digit of the lowest k ones
pub digit_mod : (n k j : ℕ) → j < k → n % 2 ^ k / 2 ^ j % 2 ≡ n / 2 ^ j % 2
digit_mod n k j below =
    let there : k ≡ (k - j) + j = omega arith in
    let some : k - j ≡ (k - j - 1) + 1 = omega arith in
    ap (λ k. n % 2 ^ k / 2 ^ j % 2) there ∙ ap (λ d. d % 2) (field n (k - j) j)
    ∙ ap (λ a. n / 2 ^ j % 2 ^ a % 2) some ∙ mod-mod-pow (n / 2 ^ j) (k - j - 1) 1

digit_low : (h k : ℕ) {l : ℕ} → l < 2 ^ k → (j : ℕ) → j < k → (h * 2 ^ k + l) / 2 ^ j % 2 ≡ l / 2 ^ j % 2
digit_low h k {l} small j below = sym (digit_mod (h * 2 ^ k + l) k j below) ∙ ap (λ n. n / 2 ^ j % 2) (low h k small)

module _ (w k n v : ℕ) (fits : v < 2 ^ n) where
  abbrev middle : ℕ
  middle = (w / 2 ^ (k + n)) * 2 ^ n + v

  kept_small : w % 2 ^ k < 2 ^ k
  kept_small = mod-lt w (pow_pos k)

  field_below : (j : ℕ) → j < k → with_field w k n v / 2 ^ j % 2 ≡ w / 2 ^ j % 2
  field_below j below = digit_low middle k kept_small j below ∙ digit_mod w k j below

  field_here : (j : ℕ) → j < n → with_field w k n v / 2 ^ (k + j) % 2 ≡ v / 2 ^ j % 2
  field_here j within =
      let back : (k + j) - k ≡ j = omega arith in
      digit_high middle k kept_small (k + j) (omega arith) ∙ ap (λ j. middle / 2 ^ j % 2) back ∙ digit_low (w / 2 ^ (k + n)) n fits j within

  field_above : (j : ℕ) → k + n ≤ j → with_field w k n v / 2 ^ j % 2 ≡ w / 2 ^ j % 2
  field_above j above =
      let there : (k + n) + ((j - k) - n) ≡ j = omega arith in
      digit_high middle k kept_small j (omega arith) ∙ digit_high (w / 2 ^ (k + n)) n fits (j - k) (omega arith)
      ∙ ap (λ d. d % 2) (shr-shr w (k + n) ((j - k) - n)) ∙ ap (λ j. w / 2 ^ j % 2) there

-- What the machine works out is that number.
module _ (w k n v : ℕ) (word : w < 2 ^ 32) (within : k + n ≤ 32) (fits : v < 2 ^ n) where
  abbrev rest : ℕ
  rest = 32 - (k + n)

  all_there : rest + (k + n) ≡ 32
  all_there = omega arith

  above_lt : w / 2 ^ (k + n) < 2 ^ rest
  above_lt = shr_lt rest (k + n) (subst (λ b. w < 2 ^ b) (sym all_there) word)

  middle_lt : middle w k n v fits < 2 ^ (rest + n)
  middle_lt = subst (λ b. middle w k n v fits < b) (sym (pow-add 2 rest n)) (digits_lt above_lt fits)

  pub field_lt : with_field w k n v < 2 ^ 32
  field_lt =
      let there : (rest + n) + k ≡ 32 = omega arith in
      subst (λ b. with_field w k n v < 2 ^ b) there
      (subst (λ b. with_field w k n v < b) (sym (pow-add 2 (rest + n) k)) (digits_lt middle_lt (kept_small w k n v fits)))

  pub field_is : ((w / 2 ^ (k + n) * 2 ^ n) % 2 ^ 64 + v) * 2 ^ k % 2 ^ 64 + w % ((1 * 2 ^ k) % 2 ^ 64) ≡ with_field w k n v
  field_is =
      ap (λ a. (a + v) * 2 ^ k % 2 ^ 64 + w % ((1 * 2 ^ k) % 2 ^ 64)) (shl_exact rest n 64 above_lt (omega arith))
      ∙ ap (λ a. a + w % ((1 * 2 ^ k) % 2 ^ 64)) (shl_exact (rest + n) k 64 middle_lt (omega arith))
      ∙ ap (λ p. middle w k n v fits * 2 ^ k + w % p) (one_shl k 64 (omega arith))

-- Tables in which such a word is written
module _ (old : List ℕ) (i k n v : ℕ) (inside : i < length old) (within : k + n ≤ 32) (fits : v < 2 ^ n) where
  abbrev old_word : ℕ
  old_word = get_or old i 0

  abbrev new : List ℕ
  new = set old i (with_field old_word k n v)

  new_bit : (j : ℕ) → j / 32 ≡ i → bit new j ≡ eqb (with_field old_word k n v / 2 ^ (j % 32) % 2) 1
  new_bit j is = ap (λ w. eqb (w / 2 ^ (j % 32) % 2) 1) (ap (λ i'. get_or new i' 0) is ∙ get_or-set_same old i (with_field old_word k n v) 0 inside)

  old_bit : (j : ℕ) → j / 32 ≡ i → bit old j ≡ eqb (old_word / 2 ^ (j % 32) % 2) 1
  old_bit j is = ap (λ i'. eqb (get_or old i' 0 / 2 ^ (j % 32) % 2) 1) is

  pub puts_field : PutsBits old (32 * i + k) n v new
  puts_field = record { here = here; others = others; long = length-set old i (with_field old_word k n v) }
    where
      here : (j : ℕ) → j < n → bit new (32 * i + k + j) ≡ eqb (v / 2 ^ j % 2) 1
      here j l =
          let place : (32 * i + k + j) % 32 ≡ k + j = omega arith in
          new_bit (32 * i + k + j) (omega arith)
          ∙ ap (λ b. eqb (with_field old_word k n v / 2 ^ b % 2) 1) place
          ∙ ap (λ d. eqb d 1) (field_here old_word k n v fits j l)

      same_word : (j : ℕ) → j / 32 ≡ i → (j < 32 * i + k) ⊎ (32 * i + k + n ≤ j) → bit new j ≡ bit old j
      same_word j is (inl before) =
          new_bit j is ∙ ap (λ d. eqb d 1) (field_below old_word k n v fits (j % 32) (omega arith)) ∙ sym (old_bit j is)
      same_word j is (inr behind) =
          new_bit j is ∙ ap (λ d. eqb d 1) (field_above old_word k n v fits (j % 32) (omega arith)) ∙ sym (old_bit j is)

      others : (j : ℕ) → (j < 32 * i + k) ⊎ (32 * i + k + n ≤ j) → bit new j ≡ bit old j
      others j apart = elim (cases_eq (j / 32) i) [
        | inl is ↦ same_word j is apart
        | inr differs ↦ ap (λ w. eqb (w / 2 ^ (j % 32) % 2) 1) (get_or-set_other old i (j / 32) (with_field old_word k n v) 0 differs)
      ]

-- The low digits at the end of one word, and the others at the beginning of the next one
pub puts_two : {old mid new : List ℕ} {k n v : ℕ} (h m : ℕ) → k + h ≡ m → h ≤ n → PutsBits old k h (v % 2 ^ h) mid → PutsBits mid m (n - h) (v / 2 ^ h) new →
    PutsBits old k n v new
puts_two {old} {mid} {new} {k} {n} {v} h m ends few a b = record { here = here; others = others; long = b.long ∙ a.long }
  where
    here : (j : ℕ) → j < n → bit new (k + j) ≡ eqb (v / 2 ^ j % 2) 1
    here j l = elim (cases_lt j h) [
      | inl first ↦ b.others (k + j) (inl (omega arith)) ∙ a.here j first ∙ ap (λ d. eqb d 1) (digit_mod v h j first)
      | inr second ↦
          let place : k + j ≡ m + (j - h) = omega arith in
          let back : h + (j - h) ≡ j = omega arith in
          ap (bit new) place ∙ b.here (j - h) (omega arith) ∙ ap (λ d. eqb (d % 2) 1) (shr-shr v h (j - h)) ∙ ap (λ j. eqb (v / 2 ^ j % 2) 1) back
    ]

    others : (j : ℕ) → (j < k) ⊎ (k + n ≤ j) → bit new j ≡ bit old j
    others j (inl before) = b.others j (inl (omega arith)) ∙ a.others j (inl before)
    others j (inr behind) = b.others j (inr (omega arith)) ∙ a.others j (inr (omega arith))
