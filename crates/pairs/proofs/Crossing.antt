-- From two closed tables of bits to whether two runs cross: the first is closed up to the middle, and the second from
-- there on, behind the pairs at which the second run is about to read a byte.
use Rattle.std.proofs.Common.{◌≡◌, ℕ, ◌*◌, ◌<◌, Bool, true, eqb, List, Decides}
use lib.Arith.{digits_lt}
use Rattle.automata.specs.Automaton.{Shape, Leaf, Reached, Crosses}
use Rattle.automata.specs.Coded.{coded, Edge, Inner}
use Rattle.automata.proofs.Coded.{coded_sound, coded_complete}
use Rattle.bits.specs.Bits.{bit}
use Rattle.pairs.specs.Marks.{Only, Enters}
use Rattle.pairs.specs.Pairs.{stopped, Stays}
use Rattle.pairs.specs.Table.{shape_at}
use Rattle.pairs.proofs.Edges.{stays_inner}
use Rattle.pairs.proofs.Meeting.{reached_below, closed_decides}
use Rattle.reach.specs.Closed.{Closed}
use Rattle.reach.specs.Reach.{Reach}
use Rattle.std.proofs.lemmas.Bool.Decides.{Decides-at}

module _ (n : ℕ) (before after : ℕ → Shape ℕ) (inner_before : Inner n before) (inner_after : Inner n after) where
  -- Two runs from i cross at m and come to e: stopped at m, they do as `before` says, and then as `after` says.
  abbrev Cross : ℕ → ℕ → ℕ → Type 0
  Cross i m e = (q : ℕ) × Leaf (before q) × Reached before (i, i) (m, q) × Reached after (m, q) (e, e)

  pub crossed_decides : {seen seen' entered entered' : List ℕ} {v w : ℕ} (i m e : ℕ) → i < n → m < n → e < n →
      Only seen (coded n (i, i)) → Closed (Edge n before) (n * n) seen seen' v → Enters n before m seen' n entered →
      Closed (Edge n after) (n * n) entered entered' w → Decides (bit entered' (coded n (e, e))) (Cross i m e)
  crossed_decides {seen' = seen'} {entered} {entered'} i m e li lm le only closed enters last = (sound, complete)
    where
      reached : (q : ℕ) → q < n → Decides (bit seen' (coded n (m, q))) (Reached before (i, i) (m, q))
      reached q l = closed_decides n before inner_before (i, i) (m, q) (li, li) (lm, l) only closed

      sound : bit entered' (coded n (e, e)) ≡ true → Cross i m e
      sound marked =
          let r = last.sound (coded n (e, e)) (digits_lt le le) marked in
          let x = enters.sound r.start r.marked in
          let path : Reach (Edge n after) (coded n (m, x.state)) (coded n (e, e)) = rw x.is at r.path in
          let known : bit seen' (coded n (m, x.state)) ≡ true = rw x.is at x.marked in (
            x.state,
            x.leaf,
            (reached x.state x.below).0 known,
            coded_sound n after inner_after (m, x.state) (e, e) (lm, x.below) (le, le) path,
          )

      complete : Cross i m e → bit entered' (coded n (e, e)) ≡ true
      complete (q, leaf, first, second) =
          let l = (reached_below n before inner_before (li, li) first).1 in
          last.complete (coded n (e, e)) (digits_lt le le) (record {
            start = coded n (m, q);
            less = digits_lt lm l;
            marked = enters.complete q l leaf ((reached q l).1 first);
            path = coded_complete n after inner_after (lm, l) second;
          })

-- The answer of `crosses`, which looks at the node k after a search from the node `start` alone, and one from the
-- entries behind the middle.
pub crosses_decided : (n : ℕ) (table : List ℕ) (i m e start k : ℕ) {seen seen' entered entered' : List ℕ} {v w : ℕ} (answer : Bool) →
    Stays n table → i < n → m < n → e < n → start ≡ coded n (i, i) → k ≡ coded n (e, e) → Only seen start →
    Closed (Edge n (stopped table m)) (n * n) seen seen' v → Enters n (stopped table m) m seen' n entered →
    Closed (Edge n (stopped table e)) (n * n) entered entered' w → answer ≡ bit entered' k →
    Decides answer (Crosses (λ s. eqb s m) (λ s. eqb s e) (shape_at table) i m e)
crosses_decided n table i m e start k answer stays li lm le at_start at_k only closed enters last is =
    let inner : (stop : ℕ) → Inner n (stopped table stop) = λ stop. stays_inner n table stop stays in
    let only' : Only _ (coded n (i, i)) = rw at_start at only in
    Decides-at answer _ (rw at_k at is)
    (crossed_decides n (stopped table m) (stopped table e) (inner m) (inner e) i m e li lm le only' closed enters last)
