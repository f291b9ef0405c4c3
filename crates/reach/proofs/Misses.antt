-- How many numbers fail a test: at most all of them, all of them, as many as another test, and one fewer.
use Rattle.std.proofs.Common.{◌≡◌, ℕ, zero, suc, ◌+◌, ◌<◌, ◌≤◌, Bool, true, false, cond, ◌≢◌, refl, inl, inr, arith}
use Rattle.std.proofs.lemmas.Bool.{cases_eq}
use Rattle.reach.specs.Closed.{misses}

pub misses_le : (p : ℕ → Bool) (n : ℕ) → misses p n ≤ n
misses_le p zero = omega arith
misses_le p (suc n) =
    let rest = misses_le p n in
    elim (p n) as (λ b. cond b 0 1 + misses p n ≤ suc n) [ true ↦ omega arith | false ↦ omega arith ]

pub misses_all : (p : ℕ → Bool) (n : ℕ) → ((k : ℕ) → p k ≡ false) → misses p n ≡ n
misses_all p zero fails = refl
misses_all p (suc n) fails = rw (fails n) (omega (arith, misses_all p n fails))

pub misses_same : (p q : ℕ → Bool) (n : ℕ) → ((k : ℕ) → k < n → p k ≡ q k) → misses p n ≡ misses q n
misses_same p q zero same = refl
misses_same p q (suc n) same = rw (same n (omega arith), misses_same p q n (λ k h. same k (omega arith)))

-- One number more passes
pub misses_falls : (p q : ℕ → Bool) (k n : ℕ) → k < n → p k ≡ false → q k ≡ true → ((j : ℕ) → j ≢ k → q j ≡ p j) → 1 + misses q n ≡ misses p n
misses_falls p q k zero h fails passes same = absurd (omega arith)
misses_falls p q k (suc n) h fails passes same = elim (cases_eq n k) [
  | inl at ↦ rw (at, fails, passes) (omega (arith, misses_same q p k (λ j l. same j (omega arith))))
  | inr other ↦ rw (same n other) (omega (arith, misses_falls p q k n (omega arith) fails passes same))
]
