-- Tables of bits after one word is written anew.
use Rattle.std.proofs.Common.{◌≡◌, ℕ, ◌+◌, ◌*◌, ◌/◌, ◌%◌, ◌^◌, ◌<◌, Bool, true, false, not, eqb, ◌≢◌, List, [], length, get_or, set, sym, refl, ap, ◌∙◌, inl, inr, arith, length-set, get_or-set_other, get_or-set_same}
use mathlib.Core.Bool.{beq}
use native.Mathlib.Nat.{zero-div}
use lib.Bits.{bit_or, bit_xor}
use Rattle.std.proofs.lemmas.Nat.{one_shl}
use Rattle.std.proofs.lemmas.Bool.{cases_eq, eq-eqb}
use Rattle.std.proofs.lemmas.Bool.Decides.{nat_tests}
use Rattle.std.proofs.lemmas.Nat.Bits.{bit_at_set_same, bit_at_set_other, bit_at_xor, bit_at-pow_same, bit_at-pow_other}
use mir.Syntax.{w32}
use Rattle.bits.specs.Bits.{bit, Puts}

-- A new word w whose digits are those of the old one but for digit k
pub puts_word : (old : List ℕ) (k w : ℕ) (v : Bool) → k / 32 < length old → eqb (w / 2 ^ (k % 32) % 2) 1 ≡ v
    → ((j : ℕ) → j ≢ k % 32 → w / 2 ^ j % 2 ≡ get_or old (k / 32) 0 / 2 ^ j % 2)
    → Puts old k v (set old (k / 32) w)
puts_word old k w v inside here others =
    record { here = rw (get_or-set_same old (k / 32) w 0 inside) here; others = elsewhere; long = length-set old (k / 32) w }
  where
    elsewhere : (j : ℕ) → j ≢ k → bit (set old (k / 32) w) j ≡ bit old j
    elsewhere j ne = elim (cases_eq (j / 32) (k / 32)) [
      | inl same ↦ rw (same, get_or-set_same old (k / 32) w 0 inside) (ap (λ d. eqb d 1) (others (j % 32) (λ e. ne (omega arith))))
      | inr differs ↦ rw (get_or-set_other old (k / 32) (j / 32) w 0 differs)
    ]

-- What `|= 1 << (k % 32)` leaves
pub puts_or : (old : List ℕ) (k : ℕ) → k / 32 < length old → Puts old k true (set old (k / 32) (bit_or (get_or old (k / 32) 0) ((1 * 2 ^ (k % 32)) % 2 ^ 32)))
puts_or old k inside =
    puts_word old k _ true inside (eq-eqb _ 1 (bit_at_set_same w32 _ (k % 32) (omega arith))) (bit_at_set_other w32 _ (k % 32) (omega arith))

-- What `^= 1 << (k % 32)` leaves
pub puts_xor : (old : List ℕ) (k : ℕ) (v : Bool) → k / 32 < length old → beq (bit old k) v ≡ false
    → Puts old k v (set old (k / 32) (bit_xor (get_or old (k / 32) 0) ((1 * 2 ^ (k % 32)) % 2 ^ 32)))
puts_xor old k v inside differs =
    rw (one_shl (k % 32) 32 (omega arith)) (puts_word old k _ v inside (ap (λ d. eqb d 1) (flipped _ (k % 32)) ∙ odd_flips _ ∙ flips (bit old k) v differs) (kept _ (k % 32)))
  where
    flipped : (w k : ℕ) → bit_xor w (2 ^ k) / 2 ^ k % 2 ≡ (w / 2 ^ k % 2 + 1) % 2
    flipped w k = omega (arith, bit_at_xor w (2 ^ k) k, bit_at-pow_same k)

    odd_flips : (d : ℕ) → eqb ((d % 2 + 1) % 2) 1 ≡ not (eqb (d % 2) 1)
    odd_flips d = grind (arith, nat_tests)

    kept : (w k j : ℕ) → j ≢ k → bit_xor w (2 ^ k) / 2 ^ j % 2 ≡ w / 2 ^ j % 2
    kept w k j ne = omega (arith, bit_at_xor w (2 ^ k) j, bit_at-pow_other k j ne)

    flips : (a b : Bool) → beq a b ≡ false → not a ≡ b
    flips true true e = sym e
    flips true false e = refl
    flips false true e = refl
    flips false false e = e

-- A table without words has no bit
pub bit_none : (k : ℕ) → bit [] k ≡ false
bit_none k = rw (zero-div (2 ^ (k % 32)))
