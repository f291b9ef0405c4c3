-- Runs cut in two: behind a front of the text, and at the byte behind that. Moves without a byte are reachability.
use Rattle.std.proofs.Common.{◌≡◌, ℕ, [], ◌∷◌, ◌++◌, sym, refl, subst, arith}
use Rattle.lens.specs.Forms.{Text}
use Rattle.reach.specs.Reach.{Reach, here, step}
use Rattle.automata.specs.Automaton.{Shape, Runs}
use Rattle.automata.proofs.Runs.{Silent, Reads, runs_none, runs_silent, runs_reads, run_fold}

nil_not_cons : {X : Type 0} {x : ℕ} {t : Text} → [] ≡ x ∷ t → X
nil_not_cons e = let z : ◌≡◌ {A = ℕ} 0 1 = cc in absurd (omega arith)

module _ {A : Type 0} (shape : A → Shape A) where
  abbrev Quiets : A → A → Type 0
  Quiets p q = Reach (λ a b. Silent (shape a) b) p q

  pub quiet_runs : {p q : A} → Quiets p q → Runs shape p [] q
  quiet_runs {p} here = runs_none shape p
  quiet_runs {p} {q} (step {b = r} m h) = runs_silent shape p r [] q m (quiet_runs h)

  pub runs_quiet : (p q : A) → Runs shape p [] q → Quiets p q
  runs_quiet p q r =
      run_fold shape q (λ p t. t ≡ [] → Quiets p q)
      (λ _. here)
      (λ p p' t m _ ih c. step m (ih c))
      (λ p p' x t m _ _ c. nil_not_cons (sym c))
      r.0 p [] r.1 refl

  -- A run over u and then v comes by a state with u read.
  abbrev Halves : A → Text → Text → A → Type 0
  Halves p u v e = (q : A) × Runs shape p u q × Runs shape q v e

  halves_none : (e : A) (u v : Text) → [] ≡ u ++ v → Halves e u v e
  halves_none e [] v c = (e, runs_none shape e, subst (λ t. Runs shape e t e) c (runs_none shape e))
  halves_none e (x ∷ u) v c = nil_not_cons c

  halves_reads : (p q e : A) (x : ℕ) (t : Text) → Reads (shape p) x q → Runs shape q t e → ((u v : Text) → t ≡ u ++ v → Halves q u v e) →
      (u v : Text) → x ∷ t ≡ u ++ v → Halves p u v e
  halves_reads p q e x t m r ih [] v c = (p, runs_none shape p, subst (λ w. Runs shape p w e) c (runs_reads shape p q x t e m r))
  halves_reads p q e x t m r ih (y ∷ u) v c =
      let same : x ≡ y = cc in
      let rest : t ≡ u ++ v = cc in
      let (s, a, b) = ih u v rest in
      (s, runs_reads shape p q y u s (subst (λ z. Reads (shape p) z q) same m) a, b)

  pub runs_split : (p e : A) (u v : Text) → Runs shape p (u ++ v) e → Halves p u v e
  runs_split p e u v r =
      run_fold shape e (λ p t. (u v : Text) → t ≡ u ++ v → Halves p u v e)
      (halves_none e)
      (λ p q t m _ ih u v c. let (s, a, b) = ih u v c in (s, runs_silent shape p q u s m a, b))
      (λ p q x t m s ih u v c. halves_reads p q e x t m s ih u v c)
      r.0 p (u ++ v) r.1 u v refl

  -- A run over one byte reads it at some state, with moves without a byte before and behind.
  pub record Single (p : A) (x : ℕ) (e : A) : Type 0 where
    pub state : A
    pub after : A
    pub before : Quiets p state
    pub reads : Reads (shape state) x after
    pub behind : Quiets after e

  pub runs_single : (p e : A) (x : ℕ) → Runs shape p (x ∷ []) e → Single p x e
  runs_single p e x r =
      run_fold shape e (λ p t. t ≡ x ∷ [] → Single p x e)
      (λ c. nil_not_cons c)
      (λ p q t m _ ih c. let s = ih c in record { state = s.state; after = s.after; before = step m s.before; reads = s.reads; behind = s.behind })
      (λ p q y t m s _ c.
      let same : y ≡ x = cc in
      let rest : t ≡ [] = cc in
      record {
        state = p;
        after = q;
        before = here;
        reads = subst (λ z. Reads (shape p) z q) same m;
        behind = runs_quiet q e (subst (λ z. Runs shape q z e) rest s);
      })
      r.0 p (x ∷ []) r.1 refl
