-- Pairs of states as numbers: one pair is reached from another if and only if its number is from the other's.
use mathlib.Core.Path.{◌≡◌, refl, sym, ◌∙◌, ap, subst}
use mathlib.Core.Bool.{Bool, true, false, cond}
use mathlib.Core.List.{map, Memᴰ}
use mathlib.Core.Logic.{inl, inr}
use Prim.Native.Nat.{ℕ, zero, suc, ◌*◌, ◌/◌, ◌%◌, ◌<◌}
use native.Mathlib.Nat.{mod-lt, div-add-mod', div-lt_iff_lt-mul}
use native.Mathlib.Omega.{arith}
use lib.Arith.{digits_lt, digits_div, digits_mod}
use Rattle.reach.specs.Reach.{Reach, here, step}
use Rattle.automata.specs.Automaton.{Shape, stop, Targets, moves, Move, Reached, ended}
use Rattle.automata.specs.Coded.{coded, Below, Edge, Inner}
use Rattle.automata.proofs.Moves.{Moved, first, second, both, moves_sound}
use Rattle.automata.proofs.Closed.{Next, next_is}

-- A number below n * n stands for a pair below n.
square_pos : (n k : ℕ) → k < n * n → zero < n
square_pos zero k h = omega arith
square_pos (suc n) k h = omega arith

pub pair_below : (n k : ℕ) → k < n * n → Below n (k / n, k % n)
pair_below n k h = let pos = square_pos n k h in ((div-lt_iff_lt-mul pos).1 h, mod-lt k pos)

-- Stopping at some states leads to no new ones.
pub ended_inner : (n : ℕ) (at_end : ℕ → Bool) (shape : ℕ → Shape ℕ) → Inner n shape → Inner n (ended at_end shape)
ended_inner n at_end shape inner p l = either (at_end p)
  where
    either : (b : Bool) → Targets (λ q. q < n) (cond b stop (shape p))
    either true = tt
    either false = inner p l

module _ (n : ℕ) (shape : ℕ → Shape ℕ) (inner : Inner n shape) where
  next_below : (p q : ℕ) → p < n → Next (shape p) q → q < n
  next_below p q l m = next_is (λ r. r < n) (shape p) q (inner p l) m

  moved_below : (s t : ℕ × ℕ) → Below n s → Moved s.0 s.1 (shape s.0) (shape s.1) t.0 t.1 → Below n t
  moved_below s t b (first m e) = (next_below s.0 t.0 b.0 (inl m), rw e b.1)
  moved_below s t b (second w m e) = (rw e b.0, next_below s.1 t.1 b.1 (inl m))
  moved_below s t b (both x l r) = (next_below s.0 t.0 b.0 (inr (x, l)), next_below s.1 t.1 b.1 (inr (x, r)))

  pub move_below : (s t : ℕ × ℕ) → Below n s → Move shape s t → Below n t
  move_below s t b m = moved_below s t b (moves_sound s.0 s.1 (shape s.0) (shape s.1) t m)

  -- Edges
  edge_complete : (s t : ℕ × ℕ) → Below n s → Move shape s t → Edge n shape (coded n s) (coded n t)
  edge_complete s t b m = rw (digits_div s.0 b.1, digits_mod s.0 b.1) (mathlib.Core.List.Memᴰ.map (coded n) m)

  edge_sound : (s : ℕ × ℕ) (l : ℕ) → Below n s → Edge n shape (coded n s) l → (t : ℕ × ℕ) × Below n t × Move shape s t × (coded n t ≡ l)
  edge_sound s l b e =
      let e' : Memᴰ l (map (coded n) (moves s.0 s.1 (shape s.0) (shape s.1))) = rw (digits_div s.0 b.1, digits_mod s.0 b.1) at e in
      let (t, m, i) = mathlib.Core.List.Memᴰ.of_map (coded n) (moves s.0 s.1 (shape s.0) (shape s.1)) e' in
      (t, move_below s t b m, m, i)

  pub edge_below : (k l : ℕ) → k < n * n → Edge n shape k l → l < n * n
  edge_below k l h e =
      let b = pair_below n k h in
      let (t, b', _, i) = edge_sound (k / n, k % n) l b (subst (λ z. Edge n shape z l) (sym (div-add-mod' k n)) e) in
      subst (λ z. z < n * n) i (digits_lt b'.0 b'.1)

  -- Paths
  pub coded_complete : {s t : ℕ × ℕ} → Below n s → Reached shape s t → Reach (Edge n shape) (coded n s) (coded n t)
  coded_complete b here = here
  coded_complete {s} b (step {b = r} m h) = step (edge_complete s r b m) (coded_complete (move_below s r b m) h)

  reached_from : {k l : ℕ} (s : ℕ × ℕ) → Below n s → coded n s ≡ k → Reach (Edge n shape) k l →
      (t : ℕ × ℕ) × Below n t × Reached shape s t × (coded n t ≡ l)
  reached_from s b e here = (s, b, here, e)
  reached_from {l = l} s b e (step {b = j} m h) =
      let (r, b', m', e') = edge_sound s j b (subst (λ z. Edge n shape z j) (sym e) m) in
      let (t, b'', h', e'') = reached_from r b' e' h in
      (t, b'', step m' h', e'')

  coded_one : (s t : ℕ × ℕ) → Below n s → Below n t → coded n s ≡ coded n t → s ≡ t
  coded_one s t b c e =
      let p : s.0 ≡ t.0 = sym (digits_div s.0 b.1) ∙ ap (λ z. z / n) e ∙ digits_div t.0 c.1 in
      let q : s.1 ≡ t.1 = sym (digits_mod s.0 b.1) ∙ ap (λ z. z % n) e ∙ digits_mod t.0 c.1 in
      λ i. (p i, q i)

  pub coded_sound : (s t : ℕ × ℕ) → Below n s → Below n t → Reach (Edge n shape) (coded n s) (coded n t) → Reached shape s t
  coded_sound s t b c h = let (r, d, k, e) = reached_from s b refl h in subst (λ z. Reached shape s z) (coded_one r t d c e) k
