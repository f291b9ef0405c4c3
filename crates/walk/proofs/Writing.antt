-- What is written into the part of lent bytes behind those that were written already.
use Rattle.std.proofs.Common.{◌≡◌, ℕ, ◌+◌, ◌-◌, ◌≤◌, List, ◌++◌, length, take, drop, sym, refl, ap, ◌∙◌, subst, ap₂, arith, length-append, length-drop, length-take-le, drop-drop}
use borrow.Rule.Slice.PartMut.{put_mid}
use Rattle.walk.specs.Writes.{written, Wrote}

pub put_is : (b : List ℕ) (n : ℕ) (u x : List ℕ) → x ≡ u → put_mid n ((n + length u) - n) b x ≡ written b n u
put_is b n u x is =
    let long : (n + length u) - n ≡ length u = omega arith in
    ap₂ (λ x k. take n b ++ (x ++ drop k (drop n b))) is long ∙ ap (λ t. take n b ++ (u ++ t)) (drop-drop (length u) n b)

written_long : (b : List ℕ) (n : ℕ) (u : List ℕ) → n + length u ≤ length b → length (written b n u) ≡ length b
written_long b n u room =
    omega (arith, length-append (take n b) (u ++ drop (n + length u) b), length-append u (drop (n + length u) b), length-take-le n b (omega arith), length-drop (n + length u) b)

pub wrote_here : {b b' : List ℕ} {n : ℕ} {u : List ℕ} → n + length u ≤ length b → b' ≡ written b n u → Wrote b n b' (n + length u) u
wrote_here {b} {n = n} {u} room is = record { same = ap length is ∙ written_long b n u room; counts = λ _. refl; fits = λ _. is }

-- The bytes that were lent are, when they are back, what was written into them.
pub wrote_back : {b b' x : List ℕ} {n n' : ℕ} {u : List ℕ} → x ≡ b' → Wrote b n b' n' u → Wrote b n x n' u
wrote_back {b} {n = n} {n'} {u} is w = subst (λ x. Wrote b n x n' u) (sym is) w
