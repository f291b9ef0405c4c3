-- What the states of a set, one after the other, go on at.
use Rattle.std.proofs.Common.{◌≡◌, ℕ, ◌+◌, ◌<◌, ◌≤◌, Bool, true, ◌||◌, List, [], Decides, subst, inl, inr, arith, below_more}
use Rattle.std.proofs.lemmas.Bool.{cases_eq, cases_lt, or_cases, or_left, or_right}
use Rattle.std.proofs.lemmas.Bool.Decides.{Decides-at}
use Rattle.bits.specs.Bits.{bit, Puts, IsLeft}
use Rattle.bits.proofs.Tables.{bit_none}
use Rattle.automata.proofs.Runs.{Reads}
use Rattle.pairs.specs.Table.{shape_at}
use Rattle.viable.specs.States.{GoesOn, MarksOn, Advanced, Expects}

-- One state more goes on, or is passed

module _ (t : List ℕ) (set : List ℕ) (x : ℕ) where
  goes_later : {k r q : ℕ} → k ≤ r → GoesOn t k set x q → GoesOn t r set x q
  goes_later l g = record { from = g.from; below = omega (arith, g.below); marked = g.marked; reads = g.reads }

  -- no state of the set from k up to r
  pub advanced_on : {k r : ℕ} {new : List ℕ} {some : Bool} → k ≤ r → ((j : ℕ) → k ≤ j → j < r → IsLeft set [] j → ⊥) → Advanced t k set x new some → Advanced t r set x new some
  advanced_on {k} {r} {new} {some} l none a = record {
    sound = λ q b. goes_later l (a.sound q b);
    complete = λ q g. a.complete q (earlier q g);
    any = (λ e. let (q, g) = a.any.0 e in (q, goes_later l g), λ (q, g). a.any.1 (q, earlier q g));
  }
    where
      earlier : (q : ℕ) → GoesOn t r set x q → GoesOn t k set x q
      earlier q g = elim (cases_lt g.from k) [
        | inl less ↦ record { from = g.from; below = less; marked = g.marked; reads = g.reads }
        | inr more ↦ absurd (none g.from more g.below (record { has = g.marked; lacks = bit_none g.from }))
      ]

  -- the state k of the set
  pub advanced_more : {k : ℕ} {old new : List ℕ} {some more : Bool} → bit set k ≡ true → Advanced t k set x old some →
      MarksOn t k x old new more → Advanced t (k + 1) set x new (some || more)
  advanced_more {k} {old} {new} {some} {more} marked a m = record { sound = sound; complete = complete; any = (found, finds) }
    where
      here : (q : ℕ) → Reads (shape_at t k) x q → GoesOn t (k + 1) set x q
      here q r = record { from = k; below = omega arith; marked = marked; reads = r }

      -- a state below k + 1 is below k, or k
      cases : (P : Type 0) (q : ℕ) → GoesOn t (k + 1) set x q → (GoesOn t k set x q → P) → (Reads (shape_at t k) x q → P) → P
      cases P q g old_one new_one = elim (cases_eq g.from k) [
        | inl e ↦ new_one (subst (λ p. Reads (shape_at t p) x q) e g.reads)
        | inr ne ↦ old_one (record { from = g.from; below = omega (arith, g.below); marked = g.marked; reads = g.reads })
      ]

      sound : (q : ℕ) → bit new q ≡ true → GoesOn t (k + 1) set x q
      sound q b = elim (m.sound q b) [ inl o ↦ goes_later (omega arith) (a.sound q o) | inr r ↦ here q r ]

      complete : (q : ℕ) → GoesOn t (k + 1) set x q → bit new q ≡ true
      complete q g = cases (bit new q ≡ true) q g (λ o. m.keeps q (a.complete q o)) (m.complete q)

      found : (some || more) ≡ true → (q : ℕ) × GoesOn t (k + 1) set x q
      found e = elim (or_cases some more e) [
        | inl o ↦ (let (q, g) = a.any.0 o in (q, goes_later (omega arith) g))
        | inr n ↦ (let (q, r) = m.any.0 n in (q, here q r))
      ]

      finds : (q : ℕ) × GoesOn t (k + 1) set x q → (some || more) ≡ true
      finds (q, g) = cases ((some || more) ≡ true) q g (λ o. or_left some more (a.any.1 (q, o))) (λ r. or_right some more (m.any.1 (q, r)))

-- The bytes that the set goes on with, one after the other
pub expects_more : {t set bytes new mid : List ℕ} {n m : ℕ} {some : Bool} → Expects t n set m bytes → Advanced t n set m mid some →
    Puts bytes m some new → Expects t n set (m + 1) new
expects_more {t} {set} {bytes} {new} {n = n} {m} {some} e a puts = record {
  each =
      below_more (λ x. Decides (bit new x) ((q : ℕ) × GoesOn t n set x q)) m
      (λ x l. Decides-at (bit new x) (bit bytes x) (puts.others x (λ is. omega arith)) (e.each x l))
      (Decides-at (bit new m) some puts.here a.any);
}
