-- The nodes that a search starts from: one alone, or those where the second run is about to read a byte.
use Rattle.std.proofs.Common.{◌≡◌, ℕ, ◌+◌, ◌<◌, Bool, true, ◌&&◌, List, Decides, sym, ◌∙◌, inl, inr, arith}
use Rattle.automata.specs.Automaton.{Shape, Leaf}
use Rattle.automata.specs.Coded.{coded}
use Rattle.bits.specs.Bits.{bit, Puts, Clears}
use Rattle.pairs.specs.Marks.{Only, Entry, Enters}
use Rattle.std.proofs.lemmas.Bool.{cases_eq, and_from, and_parts, both_ways}

pub only_one : {old words new : List ℕ} {k : ℕ} → Clears old words → Puts words k true new → Only new k
only_one {words = words} {new} {k} c p = record { here = p.here; others = others }
  where
    others : (j : ℕ) → bit new j ≡ true → j ≡ k
    others j t = elim (cases_eq j k) [ inl e ↦ e | inr ne ↦ absurd (both_ways _ (c.none j) (sym (p.others j ne) ∙ t)) ]

module _ (n : ℕ) (shape : ℕ → Shape ℕ) (m : ℕ) (seen : List ℕ) where
  pub enters_more : (i : ℕ) {old new : List ℕ} (reads : Bool) → Decides reads (Leaf (shape i)) → Enters n shape m seen i old →
      Puts old (coded n (m, i)) (bit seen (coded n (m, i)) && reads) new → Enters n shape m seen (i + 1) new
  enters_more i {old} {new} reads d e p = record { sound = sound; complete = complete }
    where
      here : (k : ℕ) → k ≡ coded n (m, i) → bit new k ≡ true → Entry n shape m seen (i + 1) k
      here k is t =
          let both = and_parts _ _ (sym p.here ∙ (rw is at t)) in
          record { state = i; below = omega arith; is = is; leaf = d.0 both.1; marked = rw is both.0 }

      later : {k : ℕ} → Entry n shape m seen i k → Entry n shape m seen (i + 1) k
      later x = record { state = x.state; below = omega (arith, x.below); is = x.is; leaf = x.leaf; marked = x.marked }

      sound : (k : ℕ) → bit new k ≡ true → Entry n shape m seen (i + 1) k
      sound k t =
          elim (cases_eq k (coded n (m, i))) [
            | inl is ↦ here k is t
            | inr ne ↦ later (e.sound k (sym (p.others k ne) ∙ t))
          ]

      complete : (q : ℕ) → q < i + 1 → Leaf (shape q) → bit seen (coded n (m, q)) ≡ true → bit new (coded n (m, q)) ≡ true
      complete q l leaf marked =
          elim (cases_eq q i) [
            | inl is ↦ now_marked is
            | inr ne ↦ p.others _ (λ at. ne (omega arith)) ∙ e.complete q (omega arith) leaf marked
          ]
        where
          now_marked : q ≡ i → bit new (coded n (m, q)) ≡ true
          now_marked is = rw is (p.here ∙ and_from _ _ (rw is at marked) (d.1 (rw is at leaf)))

  -- a turn of `enter`, with what its calls answered
  pub enters_turn : (i k : ℕ) {old new : List ℕ} (reached reads : Bool) (does : Shape ℕ) → k ≡ coded n (m, i) → reached ≡ bit seen k →
      does ≡ shape i → Decides reads (Leaf does) → Enters n shape m seen i old → Puts old k (reached && reads) new →
      Enters n shape m seen (i + 1) new
  enters_turn i k {old} {new} reached reads does at_k is_marked is d e p =
      let marked : reached ≡ bit seen (coded n (m, i)) = rw at_k at is_marked in
      let p' : Puts old (coded n (m, i)) (bit seen (coded n (m, i)) && reads) new = rw (at_k, marked) at p in
      let d' : Decides reads (Leaf (shape i)) = rw is at d in
      enters_more i reads d' e p'
