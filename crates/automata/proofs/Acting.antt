-- States that act as a form: they read the texts of the form and no others, up to where they go on.
-- Also: shapes that agree act alike, and the states of a form are finitely many. Not here: pairs of states.
use mathlib.Core.Path.{◌≡◌, refl, ◌∙◌, subst}
use mathlib.Core.List.{[], ◌∷◌, ◌++◌, append_assoc}
use mathlib.Core.Logic.{◌⊎◌, inl, inr}
use Prim.Native.Nat.{ℕ, zero, suc, ◌≤◌, ◌<◌}
use native.Mathlib.Omega.{arith}
use Rattle.lens.specs.Forms.{Text, Form, one, many, Matches, is_empty, is_one, is_seq, is_left, is_right, is_none, is_more}
use Rattle.automata.specs.Automaton.{Shape, fork, Goes, Eats, Run, Runs, Acts, a_pass, a_none, a_one, a_seq, a_or, a_many}
use Rattle.automata.proofs.Runs.{runs_none, runs_silent, runs_reads, runs_join}

-- Alike

module _ {A : Type 0} {shape shape' : A → Shape A} {ok ok' : A → Type 0} (wider : (p : A) → ok p → ok' p)
    (alike : (p : A) → ok p → shape' p ≡ shape p) where
  pub acts_alike : {f : Form} {p n : A} → Acts shape ok f p n → Acts shape' ok' f p n
  acts_alike {p = p} (a_pass q o e a) = a_pass q (wider p o) (alike p o ∙ e) (acts_alike a)
  acts_alike a_none = a_none
  acts_alike {p = p} (a_one o e) = a_one (wider p o) (alike p o ∙ e)
  acts_alike (a_seq m a b) = a_seq m (acts_alike a) (acts_alike b)
  acts_alike {p = p} (a_or q r o e a b) = a_or q r (wider p o) (alike p o ∙ e) (acts_alike a) (acts_alike b)
  acts_alike {p = p} (a_many q o e a) = a_many q (wider p o) (alike p o ∙ e) (acts_alike a)

module _ {A : Type 0} (shape : A → Shape A) where
  -- Complete: every text of the form is read.

  eats_many : {f : Form} {u : Text} (p q n : A) → shape p ≡ fork n q → ((u : Text) → Matches f u → Runs shape q u p) → Matches (many f) u →
      Runs shape p u n
  eats_many p q n e part is_none = runs_silent shape p n [] n (rw e (inl refl)) (runs_none shape n)
  eats_many p q n e part (is_more u v a b) = runs_silent shape p q (u ++ v) n (rw e (inr refl)) (runs_join shape q p n u v (part u a) (eats_many p q n e part b))

  pub acts_eat : {ok : A → Type 0} {f : Form} {p n : A} {u : Text} → Acts shape ok f p n → Matches f u → Runs shape p u n
  acts_eat {p = p} {n = n} {u = u} (a_pass q o e a) m = runs_silent shape p q u n (rw e refl) (acts_eat a m)
  acts_eat {n = n} a_none is_empty = runs_none shape n
  acts_eat {p = p} {n = n} (a_one o e) (is_one {x = x} l h) = runs_reads shape p n x [] n (rw e (l, h, refl)) (runs_none shape n)
  acts_eat {p = p} {n = n} (a_seq m a b) (is_seq u v x y) = runs_join shape p m n u v (acts_eat a x) (acts_eat b y)
  acts_eat {p = p} {n = n} {u = u} (a_or q r o e a b) (is_left x) = runs_silent shape p q u n (rw e (inl refl)) (acts_eat a x)
  acts_eat {p = p} {n = n} {u = u} (a_or q r o e a b) (is_right x) = runs_silent shape p r u n (rw e (inr refl)) (acts_eat b x)
  acts_eat {p = p} {n = n} (a_many q o e a) m = eats_many p q n e (λ u x. acts_eat a x) m

  -- Sound: a run over t reads a text of the form first, and goes on at n, if it ends at a state e that is not ok.

  pub record Back (f : Form) (n e : A) (k : ℕ) (t : Text) : Type 0 where
    pub eaten : Text
    pub rest : Text
    pub left : ℕ
    pub whole : t ≡ eaten ++ rest
    pub matches : Matches f eaten
    pub goes_on : Run shape left n rest e
    pub fewer : left ≤ k

  back_as : {f g : Form} {n e : A} {j k : ℕ} {t : Text} → ((u : Text) → Matches f u → Matches g u) → j ≤ k → Back f n e j t → Back g n e k t
  back_as h l a = record { eaten = a.eaten; rest = a.rest; left = a.left; whole = a.whole; matches = h a.eaten a.matches; goes_on = a.goes_on; fewer = omega arith }

  back_join : {f g h : Form} {m n e : A} {k : ℕ} {t : Text} → ((u v : Text) → Matches f u → Matches g v → Matches h (u ++ v)) →
      (a : Back f m e k t) → Back g n e a.left a.rest → Back h n e k t
  back_join h a b = record { eaten = a.eaten ++ b.eaten; rest = b.rest; left = b.left; whole = rw append_assoc (cc); matches = h a.eaten b.eaten a.matches b.matches; goes_on = b.goes_on; fewer = omega arith }

  -- A state that is ok is not the run's end, so there is a first move.
  first_move : (ok : A → Type 0) (k : ℕ) (p e : A) (t : Text) → ok p → (ok e → ⊥) → Run shape k p t e →
      (j : ℕ) × (j < k) × Goes (shape p) (λ q u. Run shape j q u e) t
  first_move ok zero p e t o out r = absurd (out (subst ok r.0 o))
  first_move ok (suc k) p e t o out r = (k, omega arith, r)

  back_one : (a b : ℕ) (n e : A) (j k : ℕ) (t : Text) → j < k → Eats a b (λ u. Run shape j n u e) t → Back (one a b) n e k t
  back_one a b n e j k [] l r = absurd r
  back_one a b n e j k (x ∷ t) l r = record { eaten = x ∷ []; rest = t; left = j; whole = refl; matches = is_one r.0 r.1; goes_on = r.2; fewer = omega arith }

  -- with as many turns as there are moves, at most
  back_many : (ok : A → Type 0) (f : Form) (p q n e : A) → ok p → (ok e → ⊥) → shape p ≡ fork n q →
      ((k : ℕ) (t : Text) → Run shape k q t e → Back f p e k t) → (turns k : ℕ) → k ≤ turns → (t : Text) → Run shape k p t e →
      Back (many f) n e k t
  back_many ok f p q n e o out s part zero k l t r = let (j, less, _) = first_move ok k p e t o out r in absurd (omega arith)
  back_many ok f p q n e o out s part (suc turns) k l t r =
      let (j, less, go) = first_move ok k p e t o out r in
      let turn : Run shape j n t e ⊎ Run shape j q t e = rw s at go in
      elim turn [
        | inl h ↦ record { eaten = []; rest = t; left = j; whole = refl; matches = is_none; goes_on = h; fewer = omega arith }
        | inr h ↦ let a = part j t h in back_as (λ u m. m) (omega arith) (back_join is_more a (back_many ok f p q n e o out s part turns a.left (omega arith) a.rest a.goes_on))
      ]

  pub acts_back : {ok : A → Type 0} {f : Form} {p n : A} (e : A) (k : ℕ) (t : Text) → (ok e → ⊥) → Acts shape ok f p n →
      Run shape k p t e → Back f n e k t
  acts_back {ok = ok} {p = p} e k t out (a_pass q o s a) r =
      let (j, less, go) = first_move ok k p e t o out r in
      let next : Run shape j q t e = rw s at go in
      back_as (λ u m. m) (omega arith) (acts_back e j t out a next)
  acts_back e k t out a_none r = record { eaten = []; rest = t; left = k; whole = refl; matches = is_empty; goes_on = r; fewer = omega arith }
  acts_back {ok = ok} {p = p} {n = n} e k t out (a_one {a = a} {b = b} o s) r =
      let (j, less, go) = first_move ok k p e t o out r in
      back_one a b n e j k t less (rw s at go)
  acts_back e k t out (a_seq m a b) r =
      let x = acts_back e k t out a r in
      back_join is_seq x (acts_back e x.left x.rest out b x.goes_on)
  acts_back {ok = ok} {p = p} {n = n} e k t out (a_or q q' o s a b) r =
      let (j, less, go) = first_move ok k p e t o out r in
      let turn : Run shape j q t e ⊎ Run shape j q' t e = rw s at go in
      elim turn [ inl h ↦ back_as (λ u. is_left) (omega arith) (acts_back e j t out a h) | inr h ↦ back_as (λ u. is_right) (omega arith) (acts_back e j t out b h) ]
  acts_back {ok = ok} {p = p} {n = n} e k t out (a_many {f = f} q o s a) r = back_many ok f p q n e o out s (λ j u. acts_back e j u out a) k k (omega arith) t r
