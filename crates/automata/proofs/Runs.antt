-- Runs of an automaton: the single moves, one run after another, induction on a run, runs that stop.
-- Not here: two runs side by side (Moves), runs of states that act as a form (Acting).
use mathlib.Core.Path.{◌≡◌, refl, sym, subst, subst₂}
use mathlib.Core.List.{[], ◌∷◌, ◌++◌}
use mathlib.Core.Logic.{◌⊎◌, inl, inr}
use Prim.Native.Nat.{ℕ, zero, suc, ◌≤◌}
use Rattle.lens.specs.Forms.{Text}
use Rattle.automata.specs.Automaton.{Shape, stop, to, fork, leaf, Goes, Run, Runs}

-- Single moves

-- A state of this shape can go on at q without a byte.
abbrev pub Silent : {A : Type 0} → Shape A → A → Type 0
Silent stop q = ⊥
Silent (to r) q = q ≡ r
Silent (fork r s) q = (q ≡ r) ⊎ (q ≡ s)
Silent (leaf a b r) q = ⊥

-- A state of this shape can read the byte x and go on at q.
abbrev pub Reads : {A : Type 0} → Shape A → ℕ → A → Type 0
Reads stop x q = ⊥
Reads (to r) x q = ⊥
Reads (fork r s) x q = ⊥
Reads (leaf a b r) x q = (a ≤ x) × (x ≤ b) × (q ≡ r)

goes_silent : {A : Type 0} (R : A → Text → Type 0) (s : Shape A) (q : A) (t : Text) → Silent s q → R q t → Goes s R t
goes_silent R stop q t m r = absurd m
goes_silent R (to q') q t e r = subst (λ z. R z t) e r
goes_silent R (fork q' q'') q t (inl e) r = inl (subst (λ z. R z t) e r)
goes_silent R (fork q' q'') q t (inr e) r = inr (subst (λ z. R z t) e r)
goes_silent R (leaf a b q') q t m r = absurd m

goes_reads : {A : Type 0} (R : A → Text → Type 0) (s : Shape A) (q : A) (x : ℕ) (t : Text) → Reads s x q → R q t → Goes s R (x ∷ t)
goes_reads R stop q x t m r = absurd m
goes_reads R (to q') q x t m r = absurd m
goes_reads R (fork q' q'') q x t m r = absurd m
goes_reads R (leaf a b q') q x t m r = (m.0, m.1, subst (λ z. R z t) m.2 r)

-- What a first move can be: the two above, and no other.
goes_cases : {A : Type 0} (R : A → Text → Type 0) (s : Shape A) (C : Text → Type 0) → ((q : A) (t : Text) → Silent s q → R q t → C t) →
    ((q : A) (x : ℕ) (t : Text) → Reads s x q → R q t → C (x ∷ t)) → (t : Text) → Goes s R t → C t
goes_cases R stop C f g t r = absurd r
goes_cases R (to q) C f g t r = f q t refl r
goes_cases R (fork q q') C f g t (inl r) = f q t (inl refl) r
goes_cases R (fork q q') C f g t (inr r) = f q' t (inr refl) r
goes_cases R (leaf a b q) C f g [] r = absurd r
goes_cases R (leaf a b q) C f g (x ∷ t) r = g q x t (r.0, r.1, refl) r.2

-- Runs

module _ {A : Type 0} (shape : A → Shape A) where
  pub runs_none : (p : A) → Runs shape p [] p
  runs_none p = (0, (refl, refl))

  pub runs_silent : (p q : A) (t : Text) (e : A) → Silent (shape p) q → Runs shape q t e → Runs shape p t e
  runs_silent p q t e m r = (suc r.0, goes_silent (λ z u. Run shape r.0 z u e) (shape p) q t m r.1)

  pub runs_reads : (p q : A) (x : ℕ) (t : Text) (e : A) → Reads (shape p) x q → Runs shape q t e → Runs shape p (x ∷ t) e
  runs_reads p q x t e m r = (suc r.0, goes_reads (λ z u. Run shape r.0 z u e) (shape p) q x t m r.1)

  -- Induction on a run, from its end backwards.
  pub run_fold : (e : A) (P : A → Text → Type 0) → P e [] →
      ((p q : A) (t : Text) → Silent (shape p) q → Runs shape q t e → P q t → P p t) →
      ((p q : A) (x : ℕ) (t : Text) → Reads (shape p) x q → Runs shape q t e → P q t → P p (x ∷ t)) → (k : ℕ) (p : A) (t : Text) →
      Run shape k p t e → P p t
  run_fold e P none silent reads zero p t r = subst₂ P (sym r.0) (sym r.1) none
  run_fold e P none silent reads (suc k) p t r =
      goes_cases (λ z u. Run shape k z u e) (shape p) (P p)
      (λ q u m s. silent p q u m (k, s) (run_fold e P none silent reads k q u s))
      (λ q x u m s. reads p q x u m (k, s) (run_fold e P none silent reads k q u s))
      t r

  pub runs_join : (p m e : A) (u v : Text) → Runs shape p u m → Runs shape m v e → Runs shape p (u ++ v) e
  runs_join p m e u v r s =
      run_fold m (λ q t. Runs shape q (t ++ v) e)
      s
      (λ q q' t a _ ih. runs_silent q q' (t ++ v) e a ih)
      (λ q q' x t a _ ih. runs_reads q q' x (t ++ v) e a ih)
      r.0 p u r.1

  -- From a state that stops, nothing is read.
  pub run_stopped : (k : ℕ) (p : A) (t : Text) (e : A) → shape p ≡ stop → Run shape k p t e → t ≡ []
  run_stopped zero p t e h r = r.1
  run_stopped (suc k) p t e h r = let never : ⊥ = rw h at r in absurd never
