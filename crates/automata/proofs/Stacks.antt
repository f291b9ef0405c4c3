-- The automaton whose states are stacks of forms, what the rest of a text must be one after the other: it acts
-- as every form. Stacks can be told apart. Not here: what is told by it (Told).
use mathlib.Core.Path.{◌≡◌, refl}
use mathlib.Core.Bool.{Bool}
use mathlib.Core.List.{List, [], ◌∷◌, List-discrete}
use mathlib.Core.Logic.{inl, inr}
use Prim.Native.Nat.{ℕ, ◌≤◌, ◌<◌}
use native.Mathlib.Decide.{ℕ_discrete}
use native.Mathlib.Omega.{arith}
use lib.Dec.{leb}
use lib.ListN.{length}
use borrow.Author.Tests.{le-leb, lt-leb}
use Rattle.lens.specs.Forms.{Form, Form-discrete, empty, one, seq, or, many}
use Rattle.reach.proofs.Decide.{Decided}
use Rattle.automata.specs.Automaton.{Shape, stop, to, fork, leaf, Bounds, Acts, a_pass, a_none, a_one, a_seq, a_or, a_many}

abbrev pub Stack : Type 0
Stack = List Form

abbrev pub stacked : Stack → Shape Stack
stacked [] = stop
stacked (empty ∷ σ) = to σ
stacked (one a b ∷ σ) = leaf a b σ
stacked (seq f g ∷ σ) = to (f ∷ g ∷ σ)
stacked (or f g ∷ σ) = fork (f ∷ σ) (g ∷ σ)
stacked (many f ∷ σ) = fork σ (f ∷ many f ∷ σ)

-- The stacks higher than k, and a test for the others.
abbrev pub Above : ℕ → Stack → Type 0
Above k σ = k < length σ

abbrev pub at_most : ℕ → Stack → Bool
at_most k σ = leb (length σ) k

pub stack_bounds : (j k : ℕ) (σ : Stack) → j ≤ k → length σ ≤ j → Bounds (at_most j) (Above k) σ
stack_bounds j k σ l h = record { found = le-leb (length σ) j h; passed = λ p o. lt-leb (length p) j (omega arith) }

-- A form on top of a stack acts as that form, and then goes on at the stack.
pub stack_acts : (k : ℕ) (f : Form) (σ : Stack) → k ≤ length σ → Acts stacked (Above k) f (f ∷ σ) σ
stack_acts k empty σ l = a_pass σ (omega arith) refl a_none
stack_acts k (one a b) σ l = a_one (omega arith) refl
stack_acts k (seq f g) σ l = a_pass (f ∷ g ∷ σ) (omega arith) refl (a_seq (g ∷ σ) (stack_acts k f (g ∷ σ) (omega arith)) (stack_acts k g σ l))
stack_acts k (or f g) σ l = a_or (f ∷ σ) (g ∷ σ) (omega arith) refl (stack_acts k f σ l) (stack_acts k g σ l)
stack_acts k (many f) σ l = a_many (f ∷ many f ∷ σ) (omega arith) refl (stack_acts k f (many f ∷ σ) (omega arith))

-- Equality of stacks
pub stack_decided : (σ τ : Stack) → Decided (σ ≡ τ)
stack_decided σ τ = elim (List-discrete (Form-discrete ℕ_discrete) σ τ) [ yes e ↦ inl e | no h ↦ inr h ]
