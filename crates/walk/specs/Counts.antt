-- Counting the bytes of texts, up to the greatest number that a word can say.
use Rattle.std.specs.Prelude.{◌≡◌, ℕ, ◌+◌, ◌^◌, ◌<◌, ◌≤◌, List, [], ◌++◌, length}
use Rattle.std.proofs.Common.{inl, inr, arith, length-append}
use Rattle.std.proofs.lemmas.Bool.{cases_lt}

-- From s on, the bytes of u were counted up to t: exactly, or there are too many for a word.
pub record Counted (s t : ℕ) (u : List ℕ) : Type 0 where
  pub few : s + length u < 2 ^ 64 → t ≡ s + length u
  pub many : 2 ^ 64 ≤ s + length u → 2 ^ 64 ≤ t + 1

pub counted_none : (s : ℕ) → Counted s s []
counted_none s = record { few = λ _. omega arith; many = λ l. omega arith }

pub counted_both : {s t r : ℕ} {u w : List ℕ} → Counted s t u → Counted t r w → Counted s r (u ++ w)
counted_both {s} {t} {r} {u} {w} a b = record {
  few = λ l. let is = a.few (omega (arith, long)) in omega (arith, long, b.few (omega (arith, long)));
  many = λ l. elim (cases_lt (t + length w) (2 ^ 64)) [
    | inr more ↦ b.many more
    | inl less ↦ elim (cases_lt (s + length u) (2 ^ 64)) [
      | inl small ↦ absurd (omega (arith, long, a.few small))
      | inr big ↦ omega (arith, a.many big, b.few less)
    ]
  ];
}
  where
    long : length (u ++ w) ≡ length u + length w
    long = length-append u w
