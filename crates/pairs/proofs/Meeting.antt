-- From a closed table of bits to the pairs that are reached from one pair: whether two runs meet.
-- Not here: whether two runs cross (Crossing).
use Rattle.std.proofs.Common.{◌≡◌, ℕ, ◌*◌, ◌<◌, Bool, true, eqb, List, Decides}
use lib.Arith.{digits_lt}
use Rattle.automata.specs.Automaton.{Shape, Reached, Meets}
use Rattle.automata.specs.Coded.{coded, Below, Edge, Inner}
use Rattle.automata.proofs.Coded.{move_below, coded_sound, coded_complete}
use Rattle.bits.specs.Bits.{bit}
use Rattle.pairs.specs.Marks.{Only}
use Rattle.pairs.specs.Pairs.{stopped, Stays}
use Rattle.pairs.specs.Table.{shape_at}
use Rattle.pairs.proofs.Edges.{stays_inner}
use Rattle.reach.specs.Closed.{Closed}
use Rattle.reach.specs.Reach.{Reach, here, step}
use Rattle.std.proofs.lemmas.Bool.Decides.{Decides-at}

module _ (n : ℕ) (shape : ℕ → Shape ℕ) (inner : Inner n shape) where
  pub reached_below : {s t : ℕ × ℕ} → Below n s → Reached shape s t → Below n t
  reached_below b here = b
  reached_below {s} b (step {b = r} m h) = reached_below (move_below n shape inner s r b m) h

  -- A search from the pair s alone marks exactly the pairs that are reached from it.
  pub closed_decides : {seen seen' : List ℕ} {v : ℕ} (s t : ℕ × ℕ) → Below n s → Below n t → Only seen (coded n s) →
      Closed (Edge n shape) (n * n) seen seen' v → Decides (bit seen' (coded n t)) (Reached shape s t)
  closed_decides {seen} {seen'} s t b c only closed = (sound, complete)
    where
      sound : bit seen' (coded n t) ≡ true → Reached shape s t
      sound marked =
          let r = closed.sound (coded n t) (digits_lt c.0 c.1) marked in
          let path : Reach (Edge n shape) (coded n s) (coded n t) = rw (only.others r.start r.marked) at r.path in
          coded_sound n shape inner s t b c path

      complete : Reached shape s t → bit seen' (coded n t) ≡ true
      complete path =
          closed.complete (coded n t) (digits_lt c.0 c.1) (record {
            start = coded n s;
            less = digits_lt b.0 b.1;
            marked = only.here;
            path = coded_complete n shape inner b path;
          })

-- The answer of `meets`, which looks at the node k after a search from the node `start` alone.
pub meets_decided : (n : ℕ) (table : List ℕ) (p q e start k : ℕ) {seen seen' : List ℕ} {v : ℕ} (answer : Bool) →
    Stays n table → p < n → q < n → e < n → start ≡ coded n (p, q) → k ≡ coded n (e, e) → Only seen start →
    Closed (Edge n (stopped table e)) (n * n) seen seen' v → answer ≡ bit seen' k →
    Decides answer (Meets (λ s. eqb s e) (shape_at table) p q e)
meets_decided n table p q e start k answer stays lp lq le at_start at_k only closed is =
    let inner = stays_inner n table e stays in
    let only' : Only _ (coded n (p, q)) = rw at_start at only in
    Decides-at answer _ (rw at_k at is) (closed_decides n (stopped table e) inner (p, q) (e, e) (lp, lq) (le, le) only' closed)
