-- Paths of pairs of states: what a path reads, and that a path follows two runs that read the same.
-- In `follow` the first run stops, and the second may have more to read.
use mathlib.Core.Path.{◌≡◌, refl, sym, subst}
use mathlib.Core.List.{[], ◌∷◌, ◌++◌, append-nil}
use Prim.Native.Nat.{ℕ}
use Rattle.lens.specs.Forms.{Text}
use Rattle.lens.proofs.Texts.{cons_not_nil}
use Rattle.reach.specs.Reach.{here, step}
use Rattle.reach.proofs.Paths.{reach_join}
use Rattle.automata.specs.Automaton.{Shape, stop, to, fork, leaf, Leaf, Runs, Reached}
use Rattle.automata.proofs.Runs.{Reads, runs_none, runs_silent, runs_reads, run_fold}
use Rattle.automata.proofs.Moves.{Waits, Moved, first, second, both, moves_sound, moves_complete}

stop_waits : {A : Type 0} (s : Shape A) → s ≡ stop → Waits s
stop_waits s e = rw e tt

reads_waits : {A : Type 0} (s : Shape A) (x : ℕ) (q : A) → Reads s x q → Waits s
reads_waits stop x q m = tt
reads_waits (to r) x q m = m
reads_waits (fork r r') x q m = m
reads_waits (leaf a b r) x q m = tt

reads_leaf : {A : Type 0} (s : Shape A) (x : ℕ) (q : A) → Reads s x q → Leaf s
reads_leaf stop x q m = m
reads_leaf (to r) x q m = m
reads_leaf (fork r r') x q m = m
reads_leaf (leaf a b r) x q m = tt

module _ {A : Type 0} (shape : A → Shape A) where
  -- Both ends of a path are joined by runs over one text.
  abbrev pub Eaten : A × A → A × A → Type 0
  Eaten s t = (u : Text) × Runs shape s.0 u t.0 × Runs shape s.1 u t.1

  move_eats : (s t r : A × A) → Moved s.0 s.1 (shape s.0) (shape s.1) t.0 t.1 → Eaten t r → Eaten s r
  move_eats s t r (first m e) (u, a, b) = (u, runs_silent shape s.0 t.0 u r.0 m a, subst (λ z. Runs shape z u r.1) e b)
  move_eats s t r (second w m e) (u, a, b) = (u, subst (λ z. Runs shape z u r.0) e a, runs_silent shape s.1 t.1 u r.1 m b)
  move_eats s t r (both x m n) (u, a, b) = (x ∷ u, runs_reads shape s.0 t.0 x u r.0 m a, runs_reads shape s.1 t.1 x u r.1 n b)

  pub path_eats : {s r : A × A} → Reached shape s r → Eaten s r
  path_eats {s} here = ([], runs_none shape s.0, runs_none shape s.1)
  path_eats {s} {r} (step {b = t} m h) = move_eats s t r (moves_sound s.0 s.1 (shape s.0) (shape s.1) t m) (path_eats h)

  by_move : (p q p' q' : A) (t : A × A) → Moved p q (shape p) (shape q) p' q' → Reached shape (p', q') t → Reached shape (p, q) t
  by_move p q p' q' t m h = step (moves_complete p q (shape p) (shape q) p' q' m) h

  -- The first run comes to e and reads u; the second reads u and then v: it comes to some state with v left.
  abbrev pub Followed : A → A → A → Text → A → Type 0
  Followed p q e v w = (q' : A) × Reached shape (p, q) (e, q') × Runs shape q' v w

  on : (p q p' q' e w : A) (v : Text) → Moved p q (shape p) (shape q) p' q' → Followed p' q' e v w → Followed p q e v w
  on p q p' q' e w v m (r, h, s) = (r, by_move p q p' q' (e, r) m h, s)

  -- The first state waits for the byte x: the second one moves on until it reads x.
  await : (p p' e w : A) (x : ℕ) (u v : Text) → Reads (shape p) x p' → ((q : A) → Runs shape q (u ++ v) w → Followed p' q e v w) →
      (q : A) → Runs shape q (x ∷ (u ++ v)) w → Followed p q e v w
  await p p' e w x u v m ih q r =
      run_fold shape w (λ q t. t ≡ x ∷ (u ++ v) → Followed p q e v w)
      (λ c. cons_not_nil (sym c))
      (λ q q' t n _ ih' c. on p q p q' e w v (second (reads_waits (shape p) x p' m) n refl) (ih' c))
      (λ q q' y t n s _ c.
      let same : y ≡ x = cc in
      let rest : t ≡ u ++ v = cc in
      on p q p' q' e w v (both x m (subst (λ z. Reads (shape q) z q') same n)) (ih q' (subst (λ z. Runs shape q' z w) rest s)))
      r.0 q (x ∷ (u ++ v)) r.1 refl

  pub follow : (p q e w : A) (u v : Text) → Runs shape p u e → Runs shape q (u ++ v) w → Followed p q e v w
  follow p q e w u v r s =
      run_fold shape e (λ p u. (q : A) → Runs shape q (u ++ v) w → Followed p q e v w)
      (λ q s. (q, here, s))
      (λ p p' u m _ ih q s. on p q p' q e w v (first m refl) (ih q s))
      (λ p p' x u m _ ih q s. await p p' e w x u v m ih q s)
      r.0 p u r.1 q s

  -- The first run has stopped at e: the second one moves on without a byte to its end, or to a leaf.
  pub rest_ends : (q e w : A) → shape e ≡ stop → Runs shape q [] w → Reached shape (e, q) (e, w)
  rest_ends q e w h r =
      run_fold shape w (λ q t. t ≡ [] → Reached shape (e, q) (e, w))
      (λ _. here)
      (λ q q' t m _ ih c. by_move e q e q' (e, w) (second (stop_waits (shape e) h) m refl) (ih c))
      (λ q q' x t m _ _ c. cons_not_nil c)
      r.0 q [] r.1 refl

  abbrev pub Awaits : A → A → Text → A → Type 0
  Awaits e q v w = (q' : A) × Leaf (shape q') × Reached shape (e, q) (e, q') × Runs shape q' v w

  pub rest_reads : (q e w : A) (x : ℕ) (v : Text) → shape e ≡ stop → Runs shape q (x ∷ v) w → Awaits e q (x ∷ v) w
  rest_reads q e w x v h r =
      run_fold shape w (λ q t. t ≡ x ∷ v → Awaits e q (x ∷ v) w)
      (λ c. cons_not_nil (sym c))
      (λ q q' t m _ ih c. let (l, a, b, d) = ih c in (l, a, by_move e q e q' (e, l) (second (stop_waits (shape e) h) m refl) b, d))
      (λ q q' y t m s _ c. (q, reads_leaf (shape q) y q' m, here, subst (λ z. Runs shape q z w) c (runs_reads shape q q' y t w m s)))
      r.0 q (x ∷ v) r.1 refl

  -- Two runs over one text meet where they stop.
  pub runs_meet : (p q n : A) (u : Text) → shape n ≡ stop → Runs shape p u n → Runs shape q u n → Reached shape (p, q) (n, n)
  runs_meet p q n u h r s = let (q', k, t) = follow p q n n u [] r (rw append-nil s) in reach_join k (rest_ends q' n n h t)
