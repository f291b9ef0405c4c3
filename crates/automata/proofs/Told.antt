-- Of every view it can be told whether it is clear: its conditions are about runs over stacks of forms, and those
-- are decided.
use mathlib.Core.List.{[], ◌∷◌}
use mathlib.Core.Logic.{inl, inr}
use native.Mathlib.Omega.{arith}
use Rattle.lens.specs.Forms.{Text, Form, many, Matches, exactly}
use Rattle.lens.specs.Views.{copy, hide, then, swap, either, each, sources, looks}
use Rattle.lens.specs.Clear.{CutOnce, Apart, PartsOnce}
use Rattle.reach.proofs.Decide.{Decided, decided_both}
use Rattle.automata.specs.Automaton.{Bounds, Acts, a_seq}
use Rattle.automata.specs.Told.{Told}
use Rattle.automata.proofs.Meet.{apart_sound, apart_complete, literal_sound, literal_complete}
use Rattle.automata.proofs.Cut.{cut_sound, cut_complete}
use Rattle.automata.proofs.Stacks.{stacked, Above, at_most, stack_bounds, stack_acts, stack_decided}
use Rattle.automata.proofs.Decide.{meets_decided, crosses_decided}

-- a form alone, and one form before another
alone : (f : Form) → Acts stacked (Above 0) f (f ∷ []) []
alone f = stack_acts 0 f [] (omega arith)

bounded : Bounds (at_most 0) (Above 0) []
bounded = stack_bounds 0 0 [] (omega arith) (omega arith)

matches_decided : (f : Form) (d : Text) → Decided (Matches f d)
matches_decided f d = elim (meets_decided stack_decided bounded (alone (exactly d)) (alone f)) [
  | inl h ↦ inl (literal_sound stacked (at_most 0) d bounded bounded (alone (exactly d)) (alone f) h)
  | inr h ↦ inr (λ m. h (literal_complete stacked (at_most 0) d bounded bounded (alone (exactly d)) (alone f) m))
]

apart_decided : (f g : Form) → Decided (Apart f g)
apart_decided f g = elim (meets_decided stack_decided bounded (alone f) (alone g)) [
  | inl h ↦ inr (λ apart. apart_sound stacked (at_most 0) bounded bounded (alone f) (alone g) apart h)
  | inr h ↦ inl (apart_complete stacked (at_most 0) bounded bounded (alone f) (alone g) h)
]

cut_decided : (f g : Form) → Decided (CutOnce f g)
cut_decided f g =
    let bm = stack_bounds 1 1 (g ∷ []) (omega arith) (omega arith) in
    let bn = stack_bounds 0 1 [] (omega arith) (omega arith) in
    let a = stack_acts 1 f (g ∷ []) (omega arith) in
    let both = a_seq (g ∷ []) (stack_acts 0 f (g ∷ []) (omega arith)) (alone g) in
    elim (crosses_decided stack_decided bm bn bounded a both) [
      | inl h ↦ inr (cut_sound stacked (at_most 1) (at_most 0) bm bn bounded a (alone g) h)
      | inr h ↦ inl (cut_complete stacked (at_most 1) (at_most 0) bm bn bounded a (alone g) h)
    ]

not_decided : {P : Type 0} → Decided P → Decided (P → ⊥)
not_decided (inl p) = inr (λ h. h p)
not_decided (inr h) = inl h

parts_decided : (f : Form) → Decided (PartsOnce f)
parts_decided f = decided_both (not_decided (matches_decided f [])) (cut_decided f (many f))

four : {P Q R S : Type 0} → Decided P → Decided Q → Decided R → Decided S → Decided (P × Q × R × S)
four p q r s = elim (decided_both (decided_both p q) (decided_both r s)) [
  | inl h ↦ inl (h.0.0, h.0.1, h.1.0, h.1.1)
  | inr h ↦ inr (λ (x, y, z, w). h ((x, y), (z, w)))
]

three : {P Q R : Type 0} → Decided P → Decided Q → Decided R → Decided (P × Q × R)
three p q r = elim (decided_both p (decided_both q r)) [
  | inl h ↦ inl (h.0, h.1.0, h.1.1)
  | inr h ↦ inr (λ (x, y, z). h (x, (y, z)))
]

pub told : Told
told (copy f) = inl tt
told (hide f v d) = matches_decided f d
told (then k l) = four (told k) (told l) (cut_decided (sources k) (sources l)) (cut_decided (looks k) (looks l))
told (swap k l) = four (told k) (told l) (cut_decided (sources k) (sources l)) (cut_decided (looks l) (looks k))
told (either k l) = four (told k) (told l) (apart_decided (sources k) (sources l)) (apart_decided (looks k) (looks l))
told (each l) = three (told l) (parts_decided (sources l)) (parts_decided (looks l))
