-- Sets of states as bits, and what the steps of reading a text do to them.
use Rattle.std.specs.Prelude.{◌≡◌, ℕ, ◌<◌, ◌≤◌, Bool, true, ◌⊎◌, Result, List, length, take, Decides, slice_index}
use Rattle.lens.specs.Forms.{Text, Form}
use Rattle.bits.specs.Bits.{bit}
use Rattle.automata.specs.Automaton.{stop, Runs, Acts}
use Rattle.automata.proofs.Runs.{Reads}
use Rattle.pairs.specs.Table.{shape_at}
use Rattle.viable.specs.declared.reading.Break.{Break}
use Rattle.viable.specs.Viable.{Ranged, Says}

-- The table t reads the form f: it begins at the state 0 and ends at the state e, which stops.
pub record Reader (t : List ℕ) (e : ℕ) (f : Form) : Type 0 where
  pub acts : Acts (shape_at t) (λ p. p < e) f 0 e
  pub stops : shape_at t e ≡ stop
  pub ranged : Ranged f

-- Of the first n states, the set has those that are come to from the state 0 with the text u, and there is one.
pub record After (t : List ℕ) (n : ℕ) (u : Text) (set : List ℕ) : Type 0 where
  pub sound : (q : ℕ) → q < n → bit set q ≡ true → Runs (shape_at t) 0 u q
  pub complete : (q : ℕ) → q < n → Runs (shape_at t) 0 u q → bit set q ≡ true
  pub some : (q : ℕ) × Runs (shape_at t) 0 u q

-- A state of the set, below k, reads the byte x and goes on at q.
pub record GoesOn (t : List ℕ) (k : ℕ) (set : List ℕ) (x q : ℕ) : Type 0 where
  pub from : ℕ
  pub below : from < k
  pub marked : bit set from ≡ true
  pub reads : Reads (shape_at t from) x q

-- `go_on`: where the state p goes on with the byte x is marked too, and it is said whether it goes on at all.
pub record MarksOn (t : List ℕ) (p x : ℕ) (old new : List ℕ) (some : Bool) : Type 0 where
  pub sound : (q : ℕ) → bit new q ≡ true → (bit old q ≡ true) ⊎ Reads (shape_at t p) x q
  pub keeps : (q : ℕ) → bit old q ≡ true → bit new q ≡ true
  pub complete : (q : ℕ) → Reads (shape_at t p) x q → bit new q ≡ true
  pub any : Decides some ((q : ℕ) × Reads (shape_at t p) x q)

-- `advance`: exactly the states at which those of the set, below k, go on with the byte x are marked, and it is said
-- whether there are any.
pub record Advanced (t : List ℕ) (k : ℕ) (set : List ℕ) (x : ℕ) (new : List ℕ) (some : Bool) : Type 0 where
  pub sound : (q : ℕ) → bit new q ≡ true → GoesOn t k set x q
  pub complete : (q : ℕ) → GoesOn t k set x q → bit new q ≡ true
  pub any : Decides some ((q : ℕ) × GoesOn t k set x q)

-- `follow`: the set is that of the first r bytes of the text, and no state of it reads the byte behind them.
pub record Follows (t : List ℕ) (n : ℕ) (text : Text) (set : List ℕ) (r : ℕ) : Type 0 where
  pub within : r ≤ length text
  pub after : After t n (take r text) set
  pub stuck : r < length text → (q : ℕ) → GoesOn t n set (slice_index text r) q → ⊥

-- `expected`: of the first m bytes, those are marked that some state of the set reads.
pub record Expects (t : List ℕ) (n : ℕ) (set : List ℕ) (m : ℕ) (bytes : List ℕ) : Type 0 where
  pub each : (x : ℕ) → x < m → Decides (bit bytes x) ((q : ℕ) × GoesOn t n set x q)

-- `read`: what is said holds of every form that the table reads.
pub record ReadsText (t : List ℕ) (e : ℕ) (text : Text) (r : Result (Unit {0}) Break) : Type 0 where
  pub says : (f : Form) → Reader t e f → Says f text r
