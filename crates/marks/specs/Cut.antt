-- The one way to cut a text into the parts of a tree, by what is known to begin where; and the marks of the parts' ends.
-- Not here: the words that keep those bits (Tables), and what a pass does to them (Passes).
use Rattle.std.specs.Prelude.{◌≡◌, ℕ, ◌+◌, ◌-◌, ◌<◌, ◌≤◌, Bool, true, false, List}
use Rattle.trees.specs.declared.nodes.Node.{Node}
use Rattle.trees.specs.declared.nodes.Node.TheVariants.{One, Seq, Or, Many, Same, Byte}
use Rattle.trees.specs.Nodes.{node_at}

-- The part of the node q from i to e is not empty, and the first mark of q from i on stands at its last place.
pub record Marked (M : ℕ → ℕ → Bool) (q i e : ℕ) : Type 0 where
  pub some : i < e
  pub last : M (e - 1) q ≡ true
  pub before : (j : ℕ) → i ≤ j → j + 1 < e → M j q ≡ false

-- What is cut: a part of the node at a place; what a part that is not empty is made of, by its node; any number of
-- parts of the node at a place.
pub data Cuttable : Type 0 where
  whole : ℕ → Cuttable
  inner : Node → Cuttable
  series : ℕ → Cuttable

-- `Cut words S M k i e`: the k that begins at the place i of a text ends at e. `S i q` says whether a part of the node q
-- that is not empty begins at i, and `M i q` whether one that is marked has its last place there. A part is empty only
-- if no other one begins there, so parts of any number are never empty, and the left side is tried first.
pub data Cut (words : List ℕ) (S M : ℕ → ℕ → Bool) : Cuttable → ℕ → ℕ → Type 0 where
  cut_none : {q i : ℕ} → S i q ≡ false → Cut words S M (whole q) i i
  cut_some : {q i e : ℕ} → S i q ≡ true → Cut words S M (inner (node_at words q)) i e → Marked M q i e → Cut words S M (whole q) i e
  cut_one : {a b i : ℕ} → Cut words S M (inner (One a b)) i (i + 1)
  cut_byte : {b x i e : ℕ} → Cut words S M (whole x) (i + 1) e → Cut words S M (inner (Byte b x)) i e
  cut_seq : {x y i e : ℕ} (m : ℕ) → Cut words S M (whole x) i m → Cut words S M (whole y) m e → Cut words S M (inner (Seq x y)) i e
  cut_left : {x y i e : ℕ} → S i x ≡ true → Cut words S M (whole x) i e → Cut words S M (inner (Or x y)) i e
  cut_right : {x y i e : ℕ} → S i x ≡ false → Cut words S M (whole y) i e → Cut words S M (inner (Or x y)) i e
  cut_many : {x i e : ℕ} → Cut words S M (series x) i e → Cut words S M (inner (Many x)) i e
  cut_same : {x i e : ℕ} → Cut words S M (whole x) i e → Cut words S M (inner (Same x)) i e
  cut_stop : {x i : ℕ} → S i x ≡ false → Cut words S M (series x) i i
  cut_more : {x i e : ℕ} (m : ℕ) → S i x ≡ true → Cut words S M (whole x) i m → Cut words S M (series x) m e → Cut words S M (series x) i e
