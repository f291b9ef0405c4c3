-- Writing texts one behind the other into lent bytes.
use Rattle.std.specs.Prelude.{◌≡◌, ℕ, ◌+◌, ◌≤◌, List, [], ◌++◌, length, take, drop, refl}
use Rattle.std.proofs.Common.{sym, ◌∙◌, ap, append_assoc, add-zero, arith, length-append, take-append-drop, take_at, drop_at, drop-drop, length-take-le}

-- The bytes b with the text u behind the first n of them.
abbrev pub written : List ℕ → ℕ → List ℕ → List ℕ
written b n u = take n b ++ (u ++ drop (n + length u) b)

-- From the bytes b, of which n were written, to b' and n': the text u was written behind them, if there was room for it.
pub record Wrote (b : List ℕ) (n : ℕ) (b' : List ℕ) (n' : ℕ) (u : List ℕ) : Type 0 where
  pub same : length b' ≡ length b
  pub counts : n + length u ≤ length b → n' ≡ n + length u
  pub fits : n + length u ≤ length b → b' ≡ written b n u

pub wrote_none : (b : List ℕ) (n : ℕ) → Wrote b n b n []
wrote_none b n = record {
  same = refl;
  counts = λ _. omega arith;
  fits = λ _. sym (ap (λ k. take n b ++ drop k b) (add-zero n) ∙ take-append-drop n b);
}

module _ (b : List ℕ) (n : ℕ) (u w : List ℕ) (room : n + length u ≤ length b) where
  head_long : length (take n b ++ u) ≡ n + length u
  head_long = omega (arith, length-append (take n b) u, length-take-le n b (omega arith))

  written_is : written b n u ≡ (take n b ++ u) ++ drop (n + length u) b
  written_is = sym (append_assoc (take n b) u (drop (n + length u) b))

  -- What stands before and behind the text that is written next
  before : take (n + length u) (written b n u) ≡ take n b ++ u
  before = ap (take (n + length u)) written_is ∙ take_at (take n b ++ u) (drop (n + length u) b) (n + length u) head_long

  behind : drop ((n + length u) + length w) (written b n u) ≡ drop (n + length (u ++ w)) b
  behind =
      let long : (n + length u) + length w ≡ n + length (u ++ w) = omega (arith, length-append u w) in
      sym (drop-drop (length w) (n + length u) (written b n u))
      ∙ ap (drop (length w)) (ap (drop (n + length u)) written_is ∙ drop_at (take n b ++ u) (drop (n + length u) b) (n + length u) head_long)
      ∙ drop-drop (length w) (n + length u) b
      ∙ ap (λ k. drop k b) long

  written_both : written (written b n u) (n + length u) w ≡ written b n (u ++ w)
  written_both =
      ap (λ t. t ++ (w ++ drop ((n + length u) + length w) (written b n u))) before
      ∙ ap (λ t. (take n b ++ u) ++ (w ++ t)) behind
      ∙ append_assoc (take n b) u (w ++ drop (n + length (u ++ w)) b)
      ∙ ap (λ t. take n b ++ t) (sym (append_assoc u w (drop (n + length (u ++ w)) b)))

pub wrote_both : {b b' b'' : List ℕ} {n n' n'' : ℕ} {u w : List ℕ} → Wrote b n b' n' u → Wrote b' n' b'' n'' w → Wrote b n b'' n'' (u ++ w)
wrote_both {b} {b'} {b''} {n} {n'} {n''} {u} {w} x y = record {
  same = y.same ∙ x.same;
  counts = λ l.
      let c = x.counts (first l) in
      let d = y.counts (second l) in
      omega (arith, length-append u w);
  fits = λ l. y.fits (second l) ∙ ap (λ t. written t n' w) (x.fits (first l)) ∙ ap (λ k. written (written b n u) k w) (x.counts (first l)) ∙ written_both b n u w (first l);
}
  where
    first : n + length (u ++ w) ≤ length b → n + length u ≤ length b
    first l = omega (arith, length-append u w)

    second : n + length (u ++ w) ≤ length b → n' + length w ≤ length b'
    second l = omega (arith, length-append u w, x.counts (first l), x.same)
