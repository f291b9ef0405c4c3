-- Fronts of texts: those of a viable text are viable, and a viable text is of the form or goes on with some byte.
use Rattle.std.proofs.Common.{ℕ, ◌<◌, ◌⊎◌, [], ◌∷◌, ◌++◌, sym, subst, inl, inr, append_assoc, append-nil, arith}
use Rattle.lens.specs.Forms.{Text, Form, Matches, is_empty, is_one, is_seq, is_left, is_right, is_none, is_more}
use Rattle.viable.specs.Viable.{Viable, Ranged}

-- Every front of a viable text is viable.
pub viable_front : {f : Form} (u v : Text) → Viable f (u ++ v) → Viable f u
viable_front {f} u v (w, m) = (v ++ w, subst (λ z. Matches f z) (append_assoc u v w) m)

-- The texts of a form are bytes.
abbrev Bytes : Text → Type 0
Bytes [] = Unit {0}
Bytes (x ∷ u) = (x < 256) × Bytes u

bytes_join : (u v : Text) → Bytes u → Bytes v → Bytes (u ++ v)
bytes_join [] v a b = b
bytes_join (x ∷ u) v a b = (a.0, bytes_join u v a.1 b)

bytes_at : (u : Text) (x : ℕ) (v : Text) → Bytes (u ++ x ∷ v) → x < 256
bytes_at [] x v a = a.0
bytes_at (y ∷ u) x v a = bytes_at u x v a.1

matches_bytes : {f : Form} {u : Text} → Ranged f → Matches f u → Bytes u
matches_bytes r is_empty = tt
matches_bytes r (is_one low high) = (omega (arith, r.1), tt)
matches_bytes r (is_seq u v a b) = bytes_join u v (matches_bytes r.0 a) (matches_bytes r.1 b)
matches_bytes r (is_left a) = matches_bytes r.0 a
matches_bytes r (is_right a) = matches_bytes r.1 a
matches_bytes r is_none = tt
matches_bytes r (is_more u v a b) = bytes_join u v (matches_bytes r a) (matches_bytes r b)

-- A viable text is of the form, or some byte can follow it.
pub viable_cases : {f : Form} {u : Text} → Ranged f → Viable f u → Matches f u ⊎ ((x : ℕ) × (x < 256) × Viable f (u ++ x ∷ []))
viable_cases {f} {u} r ([], m) = inl (subst (λ z. Matches f z) (append-nil u) m)
viable_cases {f} {u} r (x ∷ v, m) = inr (x, bytes_at u x v (matches_bytes r m), (v, subst (λ z. Matches f z) (sym (append_assoc u (x ∷ []) v)) m))
