-- The states of a form are finitely many: they can be listed, and a move leads from one to another of them, or
-- to where the form goes on. So a run that is stopped there stays among them.
use mathlib.Core.Path.{◌≡◌, refl, sym, ◌∙◌, ap, subst}
use mathlib.Core.List.Memᴰ
use mathlib.Core.List.{List, [], ◌∷◌, ◌++◌, Memᴰ}
use mathlib.Core.Logic.{◌⊎◌, inl, inr}
use Prim.Native.Nat.{ℕ}
use Rattle.lens.specs.Forms.{Text, Form}
use Rattle.automata.specs.Automaton.{Shape, stop, to, fork, leaf, Targets, Runs, Acts, a_pass, a_none, a_one, a_seq, a_or, a_many}
use Rattle.automata.proofs.Runs.{Silent, Reads, runs_none, runs_silent, runs_reads, run_fold}

-- Where a state of this shape can go on next.
abbrev pub Next : {A : Type 0} → Shape A → A → Type 0
Next s q = Silent s q ⊎ ((x : ℕ) × Reads s x q)

pub next_is : {A : Type 0} (S : A → Type 0) (s : Shape A) (r : A) → Targets S s → Next s r → S r
next_is S stop r h (inl m) = absurd m
next_is S stop r h (inr m) = absurd m.1
next_is S (to q) r h (inl e) = subst S (sym e) h
next_is S (to q) r h (inr m) = absurd m.1
next_is S (fork q q') r h (inl (inl e)) = subst S (sym e) h.0
next_is S (fork q q') r h (inl (inr e)) = subst S (sym e) h.1
next_is S (fork q q') r h (inr m) = absurd m.1
next_is S (leaf a b q) r h (inl m) = absurd m
next_is S (leaf a b q) r h (inr m) = subst S (sym m.1.2) h

-- The states of the list are ok, and S holds of each state that a move from one of them leads to.
pub record Closed {A : Type 0} (shape : A → Shape A) (ok : A → Type 0) (l : List A) (S : A → Type 0) : Type 0 where
  pub inside : (q : A) → Memᴰ q l → ok q
  pub kept : (q r : A) → Memᴰ q l → Next (shape q) r → S r

-- The states from p up to n, without n.
pub record Listed {A : Type 0} (shape : A → Shape A) (ok : A → Type 0) (p n : A) : Type 0 where
  pub states : List A
  pub start : Memᴰ p (n ∷ states)
  pub closing : Closed shape ok states (λ r. Memᴰ r (n ∷ states))

-- Every member of `n ∷ l` is a member of m.
within : {A : Type 0} {n : A} {l m : List A} → Memᴰ n m → ((r : A) → Memᴰ r l → Memᴰ r m) → (r : A) → Memᴰ r (n ∷ l) →
    Memᴰ r m
within h k r x = elim (Memᴰ.cases_cons x) [ inl e ↦ Memᴰ.cast e h | inr y ↦ k r y ]

module _ {A : Type 0} {shape : A → Shape A} {ok : A → Type 0} where
  closed_none : {S : A → Type 0} → Closed shape ok [] S
  closed_none = record { inside = λ q h. absurd (Memᴰ.not-nil h); kept = λ q r h. absurd (Memᴰ.not-nil h) }

  closed_more : {S : A → Type 0} {p : A} {l : List A} {s : Shape A} → ok p → shape p ≡ s → Targets S s → Closed shape ok l S →
      Closed shape ok (p ∷ l) S
  closed_more {S} {p} {l} {s} o e h c = record {
    inside = λ q m. elim (Memᴰ.cases_cons m) [ inl i ↦ subst ok (sym i) o | inr i ↦ c.inside q i ];
    kept = λ q r m x. elim (Memᴰ.cases_cons m) [ inl i ↦ next_is S s r h (subst (λ z. Next z r) (ap shape i ∙ e) x) | inr i ↦ c.kept q r i x ];
  }

  closed_join : {S : A → Type 0} {l m : List A} → Closed shape ok l S → Closed shape ok m S → Closed shape ok (l ++ m) S
  closed_join {l = l} c d = record {
    inside = λ q h. elim (Memᴰ.append_cases l h) [ inl i ↦ c.inside q i | inr i ↦ d.inside q i ];
    kept = λ q r h x. elim (Memᴰ.append_cases l h) [ inl i ↦ c.kept q r i x | inr i ↦ d.kept q r i x ];
  }

  closed_wider : {S T : A → Type 0} {l : List A} → ((r : A) → S r → T r) → Closed shape ok l S → Closed shape ok l T
  closed_wider h c = record { inside = c.inside; kept = λ q r m x. h r (c.kept q r m x) }

  pub closed_alike : {shape' : A → Shape A} {S : A → Type 0} {l : List A} → ((p : A) → ok p → shape' p ≡ shape p) → Closed shape ok l S →
      Closed shape' ok l S
  closed_alike alike c = record { inside = c.inside; kept = λ q r m x. c.kept q r m (rw (alike q (c.inside q m)) at x) }

  -- one more state in front
  listed_more : {p n : A} {l : List A} {s : Shape A} → ok p → shape p ≡ s → Targets (λ r. Memᴰ r (n ∷ p ∷ l)) s →
      Closed shape ok l (λ r. Memᴰ r (n ∷ p ∷ l)) → Listed shape ok p n
  listed_more {p = p} {l = l} o e h c = record { states = p ∷ l; start = Memᴰ.tail (Memᴰ.head refl); closing = closed_more o e h c }

  pub closed : {f : Form} {p n : A} → Acts shape ok f p n → Listed shape ok p n
  closed {p = p} {n = n} (a_pass q o e a) =
      let c = closed a in
      let wider = within {m = n ∷ p ∷ c.states} (Memᴰ.head refl) (λ r h. Memᴰ.tail (Memᴰ.tail h)) in
      listed_more o e (wider q c.start) (closed_wider wider c.closing)
  closed a_none = record { states = []; start = Memᴰ.head refl; closing = closed_none }
  closed (a_one o e) = listed_more o e (Memᴰ.head refl) closed_none
  closed {n = n} (a_seq m a b) =
      let c = closed a in
      let d = closed b in
      let right = within {m = n ∷ (c.states ++ d.states)} (Memᴰ.head refl) (λ r h. Memᴰ.tail (Memᴰ.append_right c.states h)) in
      let left = within {m = n ∷ (c.states ++ d.states)} (right m d.start) (λ r h. Memᴰ.tail (Memᴰ.append_left d.states h)) in
      record { states = c.states ++ d.states; start = left _ c.start; closing = closed_join (closed_wider left c.closing) (closed_wider right d.closing) }
  closed {p = p} {n = n} (a_or q r o e a b) =
      let c = closed a in
      let d = closed b in
      let left = within {m = n ∷ p ∷ (c.states ++ d.states)} (Memᴰ.head refl) (λ r h. Memᴰ.tail (Memᴰ.tail (Memᴰ.append_left d.states h))) in
      let right = within {m = n ∷ p ∷ (c.states ++ d.states)} (Memᴰ.head refl) (λ r h. Memᴰ.tail (Memᴰ.tail (Memᴰ.append_right c.states h))) in
      listed_more o e (left q c.start, right r d.start) (closed_join (closed_wider left c.closing) (closed_wider right d.closing))
  closed {p = p} {n = n} (a_many q o e a) =
      let c = closed a in
      let wider = within {m = n ∷ p ∷ c.states} (Memᴰ.tail (Memᴰ.head refl)) (λ r h. Memᴰ.tail (Memᴰ.tail h)) in
      listed_more o e (Memᴰ.head refl, wider q c.start) (closed_wider wider c.closing)

-- A run from among the states, in an automaton that stops at n, stays among them and n; so it is a run of every
-- automaton that is alike on them.
module _ {A : Type 0} {shape shape' : A → Shape A} {ok : A → Type 0} {l : List A} (n : A) (halt : shape n ≡ stop)
    (c : Closed shape ok l (λ r. Memᴰ r (n ∷ l))) (alike : (p : A) → ok p → shape' p ≡ shape p) where
  next_stays : (p q : A) → Memᴰ p (n ∷ l) → Next (shape p) q → (shape' p ≡ shape p) × Memᴰ q (n ∷ l)
  next_stays p q m x = elim (Memᴰ.cases_cons m) [ inl e ↦ absurd (next_is (λ _. ⊥) stop q tt (subst (λ z. Next z q) (ap shape e ∙ halt) x)) | inr i ↦ (alike p (c.inside p i), c.kept p q i x) ]

  pub stays : (p e : A) (t : Text) → Memᴰ p (n ∷ l) → Runs shape p t e → Runs shape' p t e × Memᴰ e (n ∷ l)
  stays p e t m r =
      run_fold shape e (λ p t. Memᴰ p (n ∷ l) → Runs shape' p t e × Memᴰ e (n ∷ l))
      (λ m. (runs_none shape' e, m))
      (λ p q t s _ ih m.
      let (a, i) = next_stays p q m (inl s) in
      let (b, j) = ih i in
      (runs_silent shape' p q t e (rw a s) b, j))
      (λ p q x t s _ ih m.
      let (a, i) = next_stays p q m (inr (x, s)) in
      let (b, j) = ih i in
      (runs_reads shape' p q x t e (rw a s) b, j))
      r.0 p t r.1 m

-- A run from among the states to a state that is not ok comes by n.
module _ {A : Type 0} {shape shape' : A → Shape A} {ok : A → Type 0} {l : List A} (n : A)
    (c : Closed shape ok l (λ r. Memᴰ r (n ∷ l))) (alike : (p : A) → ok p → shape' p ≡ shape p) (e : A) (out : ok e → ⊥) where
  abbrev pub Passes : A → Text → Type 0
  Passes p t = (u v : Text) × (t ≡ u ++ v) × Runs shape' p u n × Runs shape n v e

  at_once : (p : A) (t : Text) → p ≡ n → Runs shape p t e → Passes p t
  at_once p t i r = ([], t, refl, rw i (runs_none shape' n), subst (λ z. Runs shape z t e) i r)

  -- at n already, or before it
  comes : (p : A) (t : Text) → Memᴰ p (n ∷ l) → Runs shape p t e → (Memᴰ p l → Passes p t) → Passes p t
  comes p t m r before = elim (Memᴰ.cases_cons m) [ inl i ↦ at_once p t i r | inr i ↦ before i ]

  pub passes : (p : A) (t : Text) → Memᴰ p (n ∷ l) → Runs shape p t e → Passes p t
  passes p t m r =
      run_fold shape e (λ p t. Memᴰ p (n ∷ l) → Passes p t)
      (λ m. comes e [] m (runs_none shape e) (λ i. absurd (out (c.inside e i))))
      (λ p q t s r ih m. comes p t m (runs_silent shape p q t e s r) (λ i.
      let (u, v, w, a, b) = ih (c.kept p q i (inl s)) in
      (u, v, w, runs_silent shape' p q u n (rw (alike p (c.inside p i)) s) a, b)))
      (λ p q x t s r ih m. comes p (x ∷ t) m (runs_reads shape p q x t e s r) (λ i.
      let (u, v, w, a, b) = ih (c.kept p q i (inr (x, s))) in
      (x ∷ u, v, ap (λ z. x ∷ z) w, runs_reads shape' p q x u n (rw (alike p (c.inside p i)) s) a, b)))
      r.0 p t r.1 m
