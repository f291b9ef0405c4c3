-- The search for a bit that is true in one table and false in another: the rest of a word is passed, or has the first one.
use Rattle.std.proofs.Common.{◌≡◌, ℕ, ◌+◌, ◌-◌, ◌/◌, ◌%◌, ◌^◌, ◌<◌, ◌≤◌, min, true, List, get_or, eqb, Decides, refl, ap, ◌∙◌, inl, inr, arith, shr-shr}
use lib.Bits.{bit_and}
use lib.Count.{count_trailing_zeros}
use mir.Syntax.{w32}
use native.Mathlib.Nat.{zero-div}
use Rattle.std.proofs.Math.Nat.{div-le_self}
use Rattle.std.proofs.lemmas.Bool.{cases_lt, eq-eqb, eqb-true, eqb-false, ne_eqb}
use Rattle.std.proofs.lemmas.Nat.Bits.{bit_at_and, bit_at_not, bit_at_above, bit_at-trailing_zeros}
use Rattle.bits.specs.Bits.{IsLeft, LeftWord}

-- What `&` and `!` leave of a word
module _ (words without : List ℕ) (i a b : ℕ) (is_a : a ≡ get_or words i 0) (is_b : b ≡ get_or without i 0) (small : b < 2 ^ 32) where
  pub left_word : LeftWord words without i (bit_and a (4294967295 - b))
  left_word = record { each = λ k at. (found k at, finds k at) }
    where
      digit : (k : ℕ) → bit_and a (4294967295 - b) / 2 ^ (k % 32) % 2 ≡ min (a / 2 ^ (k % 32) % 2) (1 - b / 2 ^ (k % 32) % 2)
      digit k = bit_at_and a (4294967295 - b) (k % 32) ∙ ap (λ d. min (a / 2 ^ (k % 32) % 2) d) (bit_at_not w32 b (k % 32) small (omega arith))

      found : (k : ℕ) → k / 32 ≡ i → eqb (bit_and a (4294967295 - b) / 2 ^ (k % 32) % 2) 1 ≡ true → IsLeft words without k
      found k at t = record {
        has = rw (at, ← is_a) (eq-eqb _ 1 (omega (arith, digit k, eqb-true _ 1 t)));
        lacks = rw (at, ← is_b) (ne_eqb _ 1 (λ e. omega (arith, digit k, eqb-true _ 1 t)));
      }

      finds : (k : ℕ) → k / 32 ≡ i → IsLeft words without k → eqb (bit_and a (4294967295 - b) / 2 ^ (k % 32) % 2) 1 ≡ true
      finds k at l =
          let has : a / 2 ^ (k % 32) % 2 ≡ 1 = eqb-true _ 1 (rw (at, ← is_a) at l.has) in
          let lacks : b / 2 ^ (k % 32) % 2 ≡ 1 → ⊥ = eqb-false _ 1 (rw (at, ← is_b) at l.lacks) in
          eq-eqb _ 1 (omega (arith, digit k))

module _ {words without : List ℕ} (k : ℕ) {w : ℕ} (small : w < 2 ^ 32) (word : LeftWord words without (k / 32) w) where
  abbrev rest : ℕ
  rest = w / 2 ^ (k % 32)

  rest_bit : (d : ℕ) → k % 32 + d < 32 → Decides (eqb (rest / 2 ^ d % 2) 1) (IsLeft words without (k + d))
  rest_bit d h =
      let same : (k + d) / 32 ≡ k / 32 = omega arith in
      let place : k % 32 + d ≡ (k + d) % 32 = omega arith in
      rw (shr-shr w (k % 32) d, place) (word.each (k + d) same)

  -- The bits from k on that stand before the place d of the rest
  none_before : (d : ℕ) → k % 32 + d ≤ 32 → ((i : ℕ) → i < d → rest / 2 ^ i % 2 ≡ 0) → (j : ℕ) → k ≤ j → j < k + d → IsLeft words without j → ⊥
  none_before d h zeros j low high l =
      let place : k + (j - k) ≡ j = omega arith in
      let one = eqb-true _ 1 ((rest_bit (j - k) (omega arith)).1 (rw place l)) in
      omega (arith, zeros (j - k) (omega arith))

  pub passes_rest : rest ≤ 0 → (j : ℕ) → k ≤ j → j < k + (32 - k % 32) → IsLeft words without j → ⊥
  passes_rest none = none_before (32 - k % 32) (omega arith) (λ i h. let zero : rest ≡ 0 = omega arith in rw (zero, zero-div) refl)

  abbrev place : ℕ
  place = count_trailing_zeros 32 rest

  module _ (some : 0 < rest) where
    pub place_within : k % 32 + place < 32
    place_within = elim (cases_lt (k % 32 + place) 32) [
      | inl less ↦ less
      | inr more ↦
          let one = (bit_at-trailing_zeros w32 rest some (omega (arith, div-le_self w (2 ^ (k % 32))))).1 in
          absurd (omega (arith, shr-shr w (k % 32) place, ap (λ n. n % 2) (shr-shr w (k % 32) place), bit_at_above w 32 (k % 32 + place) small more))
    ]

    pub place_left : IsLeft words without (k + place)
    place_left =
        let one = (bit_at-trailing_zeros w32 rest some (omega (arith, div-le_self w (2 ^ (k % 32))))).1 in
        (rest_bit place place_within).0 (eq-eqb _ 1 one)

    pub none_left : (j : ℕ) → k ≤ j → j < k + place → IsLeft words without j → ⊥
    none_left = none_before place (omega (arith, place_within)) (bit_at-trailing_zeros w32 rest some (omega (arith, div-le_self w (2 ^ (k % 32))))).2
