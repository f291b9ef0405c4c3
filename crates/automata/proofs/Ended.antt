-- Automata stopped where a form goes on: the states before act as they did, and read the form's texts alone.
use mathlib.Core.Path.{◌≡◌, refl, sym, ◌∙◌, ap, subst}
use mathlib.Core.Bool.{Bool}
use mathlib.Core.List.{◌++◌, append-nil}
use Prim.Native.Nat.{ℕ}
use lib.Dec.{eqb}
use borrow.Author.Tests.{both_ways, eq-eqb, ne_eqb}
use Rattle.lens.specs.Forms.{Text, Form, Matches}
use Rattle.automata.specs.Automaton.{Shape, stop, Runs, ended, Bounds, Acts}
use Rattle.automata.proofs.Runs.{run_stopped}
use Rattle.automata.proofs.Acting.{acts_alike, acts_back}

module _ {A : Type 0} {at_n : A → Bool} {ok : A → Type 0} {n : A} (b : Bounds at_n ok n) where
  pub bounds_out : ok n → ⊥
  bounds_out o = both_ways (at_n n) (b.passed n o) b.found

  module _ (shape : A → Shape A) where
    pub ended_stops : ended at_n shape n ≡ stop
    ended_stops = rw b.found refl

    pub ended_alike : (p : A) → ok p → ended at_n shape p ≡ shape p
    ended_alike p o = rw (b.passed p o) refl

    pub ended_acts : {f : Form} {p m : A} → Acts shape ok f p m → Acts (ended at_n shape) ok f p m
    ended_acts a = acts_alike (λ p o. o) ended_alike a

    -- Stopped at n, p reads up to n the texts of the form alone.
    pub ended_reads : {f : Form} {p : A} {u : Text} → Acts shape ok f p n → Runs (ended at_n shape) p u n → Matches f u
    ended_reads {f = f} {u = u} a r =
        let k = acts_back (ended at_n shape) n r.0 u bounds_out (ended_acts a) r.1 in
        let none = run_stopped (ended at_n shape) k.left n k.rest n ended_stops k.goes_on in
        let same : u ≡ k.eaten = k.whole ∙ ap (λ z. k.eaten ++ z) none ∙ append-nil k.eaten in
        subst (λ z. Matches f z) (sym same) k.matches

-- States that are numbers
pub bounds_at : {ok : ℕ → Type 0} (n : ℕ) → (ok n → ⊥) → Bounds (λ p. eqb p n) ok n
bounds_at {ok} n out = record { found = eq-eqb n n refl; passed = λ p o. ne_eqb p n (λ e. out (subst ok e o)) }
