-- Forms whose texts end where they must, so that they are cut in one way from what follows.
-- Not here: how it is decided of any two forms.
use mathlib.Core.Path.{refl, ap₂}
use mathlib.Core.Logic.{◌⊎◌, inl, inr}
use mathlib.Core.List.{[], ◌++◌, append_assoc, append-nil}
use Prim.Native.Nat.{ℕ, ◌<◌}
use native.Mathlib.Omega.{arith}
use Rattle.lens.specs.Forms.{Form, empty, one, seq, many, is_empty, is_one, is_seq, is_none, is_more}
use Rattle.lens.specs.Clear.{CutOnce, Apart, PartsOnce}
use Rattle.lens.proofs.Inversions.{never}

-- The empty text and one byte end where they must, whatever follows.
pub empty_cut : {g : Form} → CutOnce empty g
empty_cut u v x y is_empty b is_empty d e = (refl, e)

pub one_cut : {a b : ℕ} {g : Form} → CutOnce (one a b) g
one_cut u v x y (is_one _ _) b (is_one _ _) d e = (cc, cc)

-- One form after another does if each does before what follows it.
pub seq_cut : {f g h : Form} → CutOnce f (seq g h) → CutOnce g h → CutOnce (seq f g) h
seq_cut first second u v x y (is_seq s t a b) c (is_seq s' t' a' b') d e =
    let (p, rest) = first s (t ++ v) s' (t' ++ y) a (is_seq t v b c) a' (is_seq t' y b' d) (simp append_assoc at e) in
    let (q, r) = second t v t' y b c b' d rest in
    (ap₂ ◌++◌ p q, r)

-- A run of bytes does before a byte that cannot belong to it.
pub run_cut : {a b c d : ℕ} {h : Form} → Apart (one a b) (one c d) → CutOnce (many (one a b)) (seq (one c d) h)
run_cut apart u v x y is_none m is_none n e = (refl, e)
run_cut apart u v x y is_none (is_seq _ _ (is_one p q) _) (is_more _ _ (is_one p' q') _) n e = never apart (is_one p' q') (is_one p q) (cc)
run_cut apart u v x y (is_more _ _ (is_one p q) _) m is_none (is_seq _ _ (is_one p' q') _) e = never apart (is_one p q) (is_one p' q') (cc)
run_cut apart u v x y (is_more _ s (is_one _ _) k) m (is_more _ t (is_one _ _) k') n e = let (p, q) = run_cut apart s v t y k m k' n (cc) in (cc, q)

pub ones_apart : {a b c d : ℕ} → (b < c) ⊎ (d < a) → Apart (one a b) (one c d)
ones_apart (inl h) u (is_one p q) (is_one p' q') = omega arith
ones_apart (inr h) u (is_one p q) (is_one p' q') = omega arith

-- At the end of a text nothing follows.
pub cut_empty : {f : Form} → CutOnce f empty
cut_empty u v x y a is_empty b is_empty e = (simp append-nil at e, refl)

pub cut_end : {f g : Form} → CutOnce f (seq g empty) → CutOnce f g
cut_end h u v x y a b c d e =
    let (p, q) = h u (v ++ []) x (y ++ []) a (is_seq v [] b is_empty) c (is_seq y [] d is_empty) (simp append-nil e) in
    (p, simp append-nil at q)

-- One byte is a part that is never empty.
pub one_parts : {a b : ℕ} → PartsOnce (one a b)
one_parts = (λ m. elim m [ ], one_cut)
