-- The graph of pairs: its moves lead where the edges do, and stay within it.
use Rattle.std.proofs.Common.{◌≡◌, ℕ, ◌*◌, ◌<◌, ◌≤◌, List, [], ◌∷◌, sym, refl, ◌∙◌, subst, ap₂, inl, inr, arith}
use mathlib.Core.List.Memᴰ
use mathlib.Core.List.{Memᴰ}
use Rattle.automata.specs.Automaton.{Shape, stop, to, fork, leaf, Targets}
use Rattle.automata.specs.Coded.{coded_moves, Edge, Inner}
use Rattle.automata.proofs.Coded.{ended_inner, edge_below}
use Rattle.pairs.specs.Pairs.{stopped, past, Stays, numbered, listed}
use Rattle.pairs.specs.Table.{shape_at, shape}
use Rattle.pairs.specs.declared.table.Step.{Step}
use Rattle.pairs.specs.declared.table.Step.TheVariants.{Stop, To, Fork, Leaf}
use Rattle.reach.specs.Graphs.{Among, Leads}
use Rattle.reach.specs.declared.graph.Moves.{Moves}
use Rattle.reach.specs.declared.graph.Moves.TheVariants.{None, One, Two}

-- Within the first n states

past_sound : (n : ℕ) (s : Shape ℕ) → past s ≤ n → Targets (λ q. q < n) s
past_sound n stop h = tt
past_sound n (to q) h = omega arith
past_sound n (fork q r) h = (omega arith, omega arith)
past_sound n (leaf a b q) h = omega arith

pub stays_inner : (n : ℕ) (t : List ℕ) (e : ℕ) → Stays n t → Inner n (stopped t e)
stays_inner n t e s = ended_inner n _ (shape_at t) (λ p _. past_sound n (shape_at t p) (s p))

-- Moves as lists

among_sound : (m : Moves) (b : ℕ) → Among m b → Memᴰ b (listed m)
among_sound None b h = absurd h
among_sound (One x) b h = Memᴰ.head h
among_sound (Two x y) b h = elim h [ inl e ↦ Memᴰ.head e | inr e ↦ Memᴰ.tail (Memᴰ.head e) ]

only : {x b : ℕ} → Memᴰ b (x ∷ []) → b ≡ x
only h = elim (Memᴰ.cases_cons h) [ inl e ↦ e | inr none ↦ absurd (Memᴰ.not-nil none) ]

among_complete : (m : Moves) (b : ℕ) → Memᴰ b (listed m) → Among m b
among_complete None b h = Memᴰ.not-nil h
among_complete (One x) b h = only h
among_complete (Two x y) b h = elim (Memᴰ.cases_cons h) [ inl e ↦ inl e | inr t ↦ inr (only t) ]

pub leads : (n : ℕ) (t : List ℕ) (e k : ℕ) (m : Moves) → Stays n t → k < n * n → listed m ≡ coded_moves n (stopped t e) k →
    Leads (Edge n (stopped t e) k) (n * n) m
leads n t e k m stays l is = record { sound = sound; complete = complete; within = within }
  where
    sound : (b : ℕ) → Among m b → Edge n (stopped t e) k b
    sound b h = subst (Memᴰ b) is (among_sound m b h)

    complete : (b : ℕ) → Edge n (stopped t e) k b → Among m b
    complete b h = among_complete m b (subst (Memᴰ b) (sym is) h)

    within : (b : ℕ) → Among m b → b < n * n
    within b h = edge_below n (stopped t e) (stays_inner n t e stays) k b l (sound b h)

-- While the first run waits

pub stop_waits : (n p q : ℕ) (l : List ℕ) (s t u : Shape ℕ) → stop ≡ s → u ≡ t → l ≡ numbered n p q stop u → l ≡ numbered n p q s t
stop_waits n p q l s t u es et h = h ∙ ap₂ (numbered n p q) es et

-- a leaf waits as a stopped state does, unless the second run is at a leaf too
pub leaf_waits : (n p q : ℕ) (l : List ℕ) (s t : Shape ℕ) (a b r : ℕ) (x : Step) → leaf a b r ≡ s → shape x ≡ t →
    ((c d o : ℕ) → x ≡ Leaf c d o → ⊥) → l ≡ numbered n p q stop (shape x) → l ≡ numbered n p q s t
leaf_waits n p q l s t a b r x es et other h = h ∙ alike x other ∙ ap₂ (numbered n p q) es et
  where
    alike : (x : Step) → ((c d o : ℕ) → x ≡ Leaf c d o → ⊥) → numbered n p q stop (shape x) ≡ numbered n p q (leaf a b r) (shape x)
    alike Stop other = refl
    alike (To q) other = refl
    alike (Fork q r) other = refl
    alike (Leaf c d o) other = absurd (other c d o refl)
