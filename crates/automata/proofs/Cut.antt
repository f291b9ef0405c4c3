-- A text can be cut into two forms in two ways if and only if two runs cross: one goes over from the first form
-- to the second while the other still reads a byte of the first. Then parts of one form, none of them empty.
use mathlib.Core.Path.{◌≡◌, sym, ◌∙◌, ap, subst}
use mathlib.Core.Bool.{Bool, true, false}
use mathlib.Core.List.{List, [], ◌∷◌, ◌++◌, append-nil, append_assoc, Memᴰ}
use mathlib.Core.Logic.{◌⊎◌, inl, inr}
use Prim.Native.Nat.{ℕ, zero, suc}
use borrow.Author.Tests.{both_ways}
use Rattle.lens.specs.Forms.{Text, Form, many, Matches}
use Rattle.lens.specs.Clear.{CutOnce, PartsOnce}
use Rattle.lens.proofs.Texts.{levi}
use Rattle.reach.proofs.Paths.{reach_join}
use Rattle.automata.specs.Automaton.{Shape, stop, to, fork, leaf, Leaf, Goes, Run, Runs, ended, Bounds, Acts, Crosses, nullable}
use Rattle.automata.proofs.Runs.{runs_join}
use Rattle.automata.proofs.Paths.{path_eats, follow, rest_reads, runs_meet}
use Rattle.automata.proofs.Acting.{acts_eat}
use Rattle.automata.proofs.Closed.{Listed, closed, closed_alike, stays, passes}
use Rattle.automata.proofs.Ended.{bounds_out, ended_stops, ended_alike, ended_acts, ended_reads}
use Rattle.automata.proofs.Nullable.{nullable_sound, nullable_complete}

-- A leaf that runs on to where it would stop reads a byte.
leaf_reads : {A : Type 0} (shape : A → Shape A) (k : ℕ) (q m : A) → Leaf (shape q) → shape m ≡ stop → Run shape k q [] m → ⊥
leaf_reads shape zero q m l h r = subst (λ s. Leaf s) (ap shape r.0 ∙ h) l
leaf_reads {A} shape (suc k) q m l h r = leaf_goes (shape q) l r
  where
    leaf_goes : (s : Shape A) → Leaf s → Goes s (λ z u. Run shape k z u m) [] → ⊥
    leaf_goes stop l r = l
    leaf_goes (to z) l r = l
    leaf_goes (fork z z') l r = l
    leaf_goes (leaf a b z) l r = r

-- A list is not longer than itself.
nothing_more : {A : Type 0} (u w : List A) → u ≡ u ++ w → w ≡ []
nothing_more [] w e = sym e
nothing_more (a ∷ u) w e = nothing_more u w (cc)

module _ {A : Type 0} (shape : A → Shape A) (at_m at_n : A → Bool) {ok ok' : A → Type 0} {f g : Form} {i m n : A}
    (bm : Bounds at_m ok m) (bn : Bounds at_n ok n) (bn' : Bounds at_n ok' n) (a : Acts shape ok f i m) (b : Acts shape ok' g m n) where
  -- the automata stopped at m and at n: they are alike on the states of f
  abbrev to_m : A → Shape A
  to_m = ended at_m shape

  abbrev to_n : A → Shape A
  to_n = ended at_n shape

  listed : Listed shape ok i m
  listed = closed a

  n_as_m : (p : A) → ok p → to_n p ≡ to_m p
  n_as_m p o = ended_alike bn shape p o ∙ sym (ended_alike bm shape p o)

  -- A run of f's states before m, stopped at m, is one stopped at n as well, and ends among these states.
  over : (p e : A) (t : Text) → Memᴰ p (m ∷ listed.states) → Runs to_m p t e → Runs to_n p t e × Memᴰ e (m ∷ listed.states)
  over p e t h r = stays m (ended_stops bm shape) (closed_alike (ended_alike bm shape) listed.closing) n_as_m p e t h r

  pub cut_sound : Crosses at_m at_n shape i m n → CutOnce f g → ⊥
  cut_sound (q, l, h, k) once =
      let (u, i_m, i_q) = path_eats to_m h in
      let (w, m_n, q_n) = path_eats to_n k in
      let inside = (over i q u listed.start i_q).1 in
      let (x, y, e, q_m, m_n') = passes m (closed_alike (ended_alike bn shape) listed.closing) (λ p o. sym (n_as_m p o)) n (bounds_out bn) q w inside q_n in
      let longer = ended_reads bm shape a (runs_join to_m i q m u x i_q q_m) in
      let same = once u w (u ++ x) y (ended_reads bm shape a i_m) (ended_reads bn' shape b m_n) longer (ended_reads bn' shape b m_n') (ap (λ z. u ++ z) e ∙ sym (append_assoc u x y)) in
      let none : x ≡ [] = nothing_more u x same.0 in
      leaf_reads to_m q_m.0 q m l (ended_stops bm shape) (subst (λ z. Run to_m q_m.0 q z m) none q_m.1)

  -- Of two cuts the second has more in front: its run is at a leaf where the first one's has come to m.
  crossing : (u v y : Text) (c : ℕ) (z : Text) → Matches f u → Matches g v → Matches f (u ++ (c ∷ z)) → Matches g y → v ≡ (c ∷ z) ++ y →
      Crosses at_m at_n shape i m n
  crossing u v y c z f_u g_v f_uz g_y e =
      let act = ended_acts bm shape a in
      let act' = ended_acts bn' shape b in
      let (q₀, h₀, r₀) = follow to_m i i m m u (c ∷ z) (acts_eat to_m act f_u) (acts_eat to_m act f_uz) in
      let (q, l, h₁, r₁) = rest_reads to_m q₀ m m c z (ended_stops bm shape) r₀ in
      let h = reach_join h₀ h₁ in
      let (t, _, i_q) = path_eats to_m h in
      let q_m = (over q m (c ∷ z) (over i q t listed.start i_q).1 r₁).0 in
      let q_n = runs_join to_n q m n (c ∷ z) y q_m (acts_eat to_n act' g_y) in
      (q, l, h, runs_meet to_n m q n v (ended_stops bn shape) (acts_eat to_n act' g_v) (rw e q_n))

  same_cut : (Crosses at_m at_n shape i m n → ⊥) → (u v x y w : Text) → Matches f u → Matches g v → Matches f x → Matches g y →
      x ≡ u ++ w → v ≡ w ++ y → (u ≡ x) × (v ≡ y)
  same_cut never u v x y [] f_u g_v f_x g_y e k = (sym (e ∙ append-nil u), k)
  same_cut never u v x y (c ∷ z) f_u g_v f_x g_y e k = absurd (never (crossing u v y c z f_u g_v (rw e at f_x) g_y k))

  pub cut_complete : (Crosses at_m at_n shape i m n → ⊥) → CutOnce f g
  cut_complete never u v x y f_u g_v f_x g_y e =
      elim (levi u v x y e) [
        | inl h ↦ same_cut never u v x y h.0 f_u g_v f_x g_y h.1 h.2
        | inr h ↦ let (p, q) = same_cut never x y u v h.0 f_x g_y f_u g_v h.1 h.2 in (sym p, sym q)
      ]

-- Parts of one form: the state m acts as many of it, and i as the part.
module _ {A : Type 0} (shape : A → Shape A) (at_m at_n : A → Bool) {ok ok' : A → Type 0} {f : Form} {i m n : A} (bm : Bounds at_m ok m)
    (bn : Bounds at_n ok n) (bn' : Bounds at_n ok' n) (a : Acts shape ok f i m) (b : Acts shape ok' (many f) m n) where
  pub parts_sound : (nullable f ≡ true) ⊎ Crosses at_m at_n shape i m n → PartsOnce f → ⊥
  parts_sound (inl e) once = once.0 (nullable_sound f e)
  parts_sound (inr h) once = cut_sound shape at_m at_n bm bn bn' a b h once.1

  pub parts_complete : nullable f ≡ false → (Crosses at_m at_n shape i m n → ⊥) → PartsOnce f
  parts_complete e never = (λ none. both_ways (nullable f) e (nullable_complete f none), cut_complete shape at_m at_n bm bn bn' a b never)
