-- Cuts alone: their order, that marks behind them don't matter, and that there is one cut only.
use Rattle.std.proofs.Common.{◌≡◌, ℕ, ◌-◌, ◌<◌, ◌≤◌, Bool, true, false, List, sym, ◌∙◌, subst, le_refl, arith}
use Rattle.std.proofs.lemmas.Bool.{both_ways}
use Rattle.trees.specs.declared.nodes.Node.{Node}
use Rattle.trees.specs.declared.nodes.Node.TheVariants.{None, Empty, One, Seq, Or, Many, Same, Byte}
use Rattle.trees.specs.Nodes.{node_at, EachPart}
use Rattle.marks.specs.Cut.{Marked, Cuttable, whole, inner, series, Cut, cut_none, cut_some, cut_one, cut_byte, cut_seq, cut_left, cut_right, cut_many, cut_same, cut_stop, cut_more}

-- Marks of some nodes that are the same before e.
abbrev pub Agree : (P : ℕ → Type 0) (M M' : ℕ → ℕ → Bool) → ℕ → Type 0
Agree P M M' e = (j p : ℕ) → P p → j < e → M' j p ≡ M j p

marked_kept : {q i e : ℕ} (M M' : ℕ → ℕ → Bool) → ((j : ℕ) → j < e → M' j q ≡ M j q) → Marked M q i e → Marked M' q i e
marked_kept {q} {i} {e} M M' same m =
    let l = m.some in
    record { some = l; last = same (e - 1) (omega arith) ∙ m.last; before = λ j low high. same j (omega arith) ∙ m.before j low high }

agree_less : {m e : ℕ} (P : ℕ → Type 0) (M M' : ℕ → ℕ → Bool) → m ≤ e → Agree P M M' e → Agree P M M' m
agree_less P M M' low same = λ j p on l. same j p on (omega arith)

-- The nodes at which a cut begins.
abbrev pub On : (ℕ → Type 0) → Cuttable → Type 0
On P (whole q) = P q
On P (inner made) = EachPart P made
On P (series x) = P x

-- What is so of all places is so of the parts of any node.
each_any : (made : Node) → EachPart (λ _. Unit {0}) made
each_any None = tt
each_any Empty = tt
each_any (One a b) = tt
each_any (Seq x y) = (tt, tt)
each_any (Or x y) = (tt, tt)
each_any (Many x) = tt
each_any (Same x) = tt
each_any (Byte b x) = tt

any_on : (k : Cuttable) → On (λ _. Unit {0}) k
any_on (whole q) = tt
any_on (inner made) = each_any made
any_on (series x) = tt

-- Where a cut may begin in a text of n places: what a part is made of begins before its end.
abbrev Inside : ℕ → Cuttable → ℕ → Type 0
Inside n (whole q) i = i ≤ n
Inside n (inner made) i = i < n
Inside n (series x) i = i ≤ n

module _ {words : List ℕ} {S : ℕ → ℕ → Bool} where
  pub cut_ordered : {M : ℕ → ℕ → Bool} {k : Cuttable} {i e : ℕ} → Cut words S M k i e → i ≤ e
  cut_ordered (cut_none s) = le_refl _
  cut_ordered (cut_some s c m) = omega (arith, m.some)
  cut_ordered cut_one = omega arith
  cut_ordered (cut_byte c) = omega (arith, cut_ordered c)
  cut_ordered (cut_seq m c d) = omega (arith, cut_ordered c, cut_ordered d)
  cut_ordered (cut_left s c) = cut_ordered c
  cut_ordered (cut_right s c) = cut_ordered c
  cut_ordered (cut_many c) = cut_ordered c
  cut_ordered (cut_same c) = cut_ordered c
  cut_ordered (cut_stop s) = le_refl _
  cut_ordered (cut_more m s c d) = omega (arith, cut_ordered c, cut_ordered d)

  -- Marks behind a cut don't matter, nor do those of nodes that don't stand in it: P holds of those that do.
  module _ (P : ℕ → Type 0) (closed : (q : ℕ) → P q → EachPart P (node_at words q)) where
    pub cut_kept_on : {M M' : ℕ → ℕ → Bool} {k : Cuttable} {i e : ℕ} → Cut words S M k i e → On P k → Agree P M M' e → Cut words S M' k i e
    cut_kept_on (cut_none s) on same = cut_none s
    cut_kept_on (cut_some {q} s c m) on same =
        cut_some s (cut_kept_on c (closed q on) same) (marked_kept _ _ (λ j l. same j q on l) m)
    cut_kept_on cut_one on same = cut_one
    cut_kept_on (cut_byte c) on same = cut_byte (cut_kept_on c on same)
    cut_kept_on (cut_seq m c d) on same =
        cut_seq m (cut_kept_on c on.0 (agree_less P _ _ (cut_ordered d) same)) (cut_kept_on d on.1 same)
    cut_kept_on (cut_left s c) on same = cut_left s (cut_kept_on c on.0 same)
    cut_kept_on (cut_right s c) on same = cut_right s (cut_kept_on c on.1 same)
    cut_kept_on (cut_many c) on same = cut_many (cut_kept_on c on same)
    cut_kept_on (cut_same c) on same = cut_same (cut_kept_on c on same)
    cut_kept_on (cut_stop s) on same = cut_stop s
    cut_kept_on (cut_more m s c d) on same =
        cut_more m s (cut_kept_on c on (agree_less P _ _ (cut_ordered d) same)) (cut_kept_on d on same)

  pub cut_kept : {M M' : ℕ → ℕ → Bool} {k : Cuttable} {i e : ℕ} → Cut words S M k i e → ((j p : ℕ) → j < e → M' j p ≡ M j p) → Cut words S M' k i e
  cut_kept {k = k} c same = cut_kept_on (λ _. Unit {0}) (λ q on. each_any (node_at words q)) c (any_on k) (λ j p on l. same j p l)

  -- A cut ends within a text of n places if nothing begins behind it.
  pub cut_within : {M : ℕ → ℕ → Bool} {k : Cuttable} {i e n : ℕ} → ((i q : ℕ) → S i q ≡ true → i < n) → Cut words S M k i e → Inside n k i → e ≤ n
  cut_within bound (cut_none s) l = l
  cut_within bound (cut_some {q} {i} s c m) l = cut_within bound c (bound i q s)
  cut_within bound cut_one l = omega arith
  cut_within bound (cut_byte c) l = cut_within bound c (omega arith)
  cut_within bound (cut_seq m c d) l = cut_within bound d (cut_within bound c (omega arith))
  cut_within bound (cut_left s c) l = cut_within bound c (omega arith)
  cut_within bound (cut_right s c) l = cut_within bound c (omega arith)
  cut_within bound (cut_many c) l = cut_within bound c (omega arith)
  cut_within bound (cut_same c) l = cut_within bound c (omega arith)
  cut_within bound (cut_stop s) l = l
  cut_within bound (cut_more m s c d) l = cut_within bound d (cut_within bound c l)

  -- A cut has one end, whatever is marked.
  pub cut_one_only : {M M' : ℕ → ℕ → Bool} {k : Cuttable} {i i' e e' : ℕ} → Cut words S M k i e → Cut words S M' k i' e' → i ≡ i' → e ≡ e'
  cut_one_only (cut_none s) (cut_none t) same = same
  cut_one_only (cut_none {q} s) (cut_some t d n) same = absurd (both_ways _ (subst (λ i. S i q ≡ false) same s) t)
  cut_one_only (cut_some {q} s c m) (cut_none t) same = absurd (both_ways _ (subst (λ i. S i q ≡ false) (sym same) t) s)
  cut_one_only (cut_some s c m) (cut_some t d n) same = cut_one_only c d same
  cut_one_only cut_one cut_one same = omega arith
  cut_one_only (cut_byte c) (cut_byte d) same = cut_one_only c d (omega arith)
  cut_one_only (cut_seq m c d) (cut_seq m' c' d') same = cut_one_only d d' (cut_one_only c c' same)
  cut_one_only (cut_left s c) (cut_left t d) same = cut_one_only c d same
  cut_one_only (cut_left {x} s c) (cut_right t d) same = absurd (both_ways _ (subst (λ i. S i x ≡ false) (sym same) t) s)
  cut_one_only (cut_right {x} s c) (cut_left t d) same = absurd (both_ways _ (subst (λ i. S i x ≡ false) same s) t)
  cut_one_only (cut_right s c) (cut_right t d) same = cut_one_only c d same
  cut_one_only (cut_many c) (cut_many d) same = cut_one_only c d same
  cut_one_only (cut_same c) (cut_same d) same = cut_one_only c d same
  cut_one_only (cut_stop s) (cut_stop t) same = same
  cut_one_only (cut_stop {x} s) (cut_more m t c d) same = absurd (both_ways _ (subst (λ i. S i x ≡ false) same s) t)
  cut_one_only (cut_more {x} m s c d) (cut_stop t) same = absurd (both_ways _ (subst (λ i. S i x ≡ false) (sym same) t) s)
  cut_one_only (cut_more m s c d) (cut_more m' t c' d') same = cut_one_only d d' (cut_one_only c c' same)
