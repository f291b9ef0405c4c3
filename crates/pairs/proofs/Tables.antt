-- Tables of automata: what a state does after a change, and tables whose states go on among the first n alone.
use Rattle.std.proofs.Common.{◌≡◌, ℕ, ◌*◌, ◌<◌, ◌≤◌, List, length, get_or, sym, ap, ◌∙◌, subst, inl, inr}
use Rattle.automata.specs.Automaton.{Shape, stop}
use Rattle.records.specs.Records.{PutsRecord}
use Rattle.pairs.specs.Table.{shape_of_words, shape_at, Inside, Bounded, Changed}
use Rattle.std.proofs.lemmas.List.{get_or_past}
use Rattle.std.proofs.lemmas.Bool.{cases_lt, cases_eq}

-- Stopped states

pub past_stops : (t : List ℕ) (p : ℕ) → length t ≤ 4 * p → shape_at t p ≡ stop
past_stops t p h = rw (get_or_past t (4 * p) 0 h)

pub zeros_stop : (t : List ℕ) → ((i : ℕ) → i < length t → get_or t i 0 ≡ 0) → (p : ℕ) → shape_at t p ≡ stop
zeros_stop t zeros p = elim (cases_lt (4 * p) (length t)) [ inl l ↦ rw (zeros (4 * p) l) | inr h ↦ past_stops t p h ]

-- Changes

pub bounded_changed : {n p : ℕ} {t t' : List ℕ} {s : Shape ℕ} → Changed t t' p s → Inside n s → Bounded n t → Bounded n t'
bounded_changed {n} {p} {t} {t'} {s} c i b = record { inside = inside }
  where
    inside : (q : ℕ) → Inside n (shape_at t' q)
    inside q =
        elim (cases_eq q p) [
          | inl e ↦ subst (Inside n) (sym (ap (shape_at t') e ∙ c.here)) i
          | inr ne ↦ subst (Inside n) (sym (c.elsewhere q ne)) (b.inside q)
        ]

pub puts_change : {t t' w : List ℕ} {p : ℕ} {s : Shape ℕ} → PutsRecord t p w t' → shape_of_words w ≡ s → Changed t t' p s
puts_change puts e = record { here = ap shape_of_words puts.here ∙ e; elsewhere = λ q ne. ap shape_of_words (puts.others q ne) }
