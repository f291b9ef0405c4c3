-- Automata that read bytes: what a state does, runs, the moves of two runs side by side, and which states act
-- as a form. An automaton is one function from states, of any type, to shapes. Not here: any proof.
use Rattle.std.specs.Prelude.{◌≡◌, Bool, true, false, cond, ◌⊎◌, ℕ, zero, suc, ◌≤◌, min, max, leb}
use mathlib.Core.List.{List, [], ◌∷◌, Memᴰ}
use Rattle.lens.specs.Forms.{Text, Form, empty, one, seq, or, many}
use Rattle.reach.specs.Reach.{Reach}

-- What a state does. `stop`: nothing more; `to q`: goes on at q without a byte; `fork q r`: goes on at q or at
-- r without a byte; `leaf a b q`: reads one byte from a to b and goes on at q.
pub data Shape (A : Type 0) : Type 0 where
  stop : Shape A
  to : A → Shape A
  fork : A → A → Shape A
  leaf : ℕ → ℕ → A → Shape A

abbrev pub Leaf : {A : Type 0} → Shape A → Type 0
Leaf stop = ⊥
Leaf (to q) = ⊥
Leaf (fork q r) = ⊥
Leaf (leaf a b q) = Unit {0}

-- S holds of each state that a state of this shape can go on at.
abbrev pub Targets : {A : Type 0} → (A → Type 0) → Shape A → Type 0
Targets S stop = Unit {0}
Targets S (to q) = S q
Targets S (fork q r) = S q × S r
Targets S (leaf a b q) = S q

-- `Run shape k p t e`: from the state p, k moves read the text t and come to the state e.
abbrev pub Eats : ℕ → ℕ → (Text → Type 0) → Text → Type 0
Eats a b R [] = ⊥
Eats a b R (x ∷ t) = (a ≤ x) × (x ≤ b) × R t

abbrev pub Goes : {A : Type 0} → Shape A → (A → Text → Type 0) → Text → Type 0
Goes stop R t = ⊥
Goes (to q) R t = R q t
Goes (fork q r) R t = R q t ⊎ R r t
Goes (leaf a b q) R t = Eats a b (R q) t

abbrev pub Run : {A : Type 0} → (A → Shape A) → ℕ → A → Text → A → Type 0
Run shape zero p t e = (p ≡ e) × (t ≡ [])
Run shape (suc k) p t e = Goes (shape p) (λ q u. Run shape k q u e) t

abbrev pub Runs : {A : Type 0} → (A → Shape A) → A → Text → A → Type 0
Runs shape p t e = (k : ℕ) × Run shape k p t e

-- Some byte is from a to b and from c to d.
abbrev pub overlap : ℕ → ℕ → ℕ → ℕ → Bool
overlap a b c d = leb (max a c) (min b d)

-- The moves of a pair of states, two at most, so that both read the same text. The first one moves without a
-- byte as long as it can; then, while it waits, the second one; then both read one byte, if one fits both.
abbrev pub moves : {A : Type 0} → A → A → Shape A → Shape A → List (A × A)
moves p q stop stop = []
moves p q stop (to q') = (p, q') ∷ []
moves p q stop (fork q' q'') = (p, q') ∷ (p, q'') ∷ []
moves p q stop (leaf c d q') = []
moves p q (to p') t = (p', q) ∷ []
moves p q (fork p' p'') t = (p', q) ∷ (p'', q) ∷ []
moves p q (leaf a b p') stop = []
moves p q (leaf a b p') (to q') = (p, q') ∷ []
moves p q (leaf a b p') (fork q' q'') = (p, q') ∷ (p, q'') ∷ []
moves p q (leaf a b p') (leaf c d q') = cond (overlap a b c d) ((p', q') ∷ []) []

abbrev pub Move : {A : Type 0} → (A → Shape A) → A × A → A × A → Type 0
Move shape s t = Memᴰ t (moves s.0 s.1 (shape s.0) (shape s.1))

-- The pair of states t is reached from the pair s.
abbrev pub Reached : {A : Type 0} → (A → Shape A) → A × A → A × A → Type 0
Reached shape s t = Reach (Move shape) s t

-- The automaton that stops at the states which the test finds, and is otherwise the same.
abbrev pub ended : {A : Type 0} → (A → Bool) → (A → Shape A) → A → Shape A
ended at_end shape p = cond (at_end p) stop (shape p)

-- The test finds n, and none of the states that are ok.
pub record Bounds {A : Type 0} (at_end : A → Bool) (ok : A → Type 0) (n : A) : Type 0 where
  pub found : at_end n ≡ true
  pub passed : (p : A) → ok p → at_end p ≡ false

-- `Acts shape ok f p n`: the state p acts as the form f, and then goes on at n. All its states before n are
-- ok; that n is not is for `Bounds` to say.
pub data Acts {A : Type 0} (shape : A → Shape A) (ok : A → Type 0) : Form → A → A → Type 0 where
  a_pass : {f : Form} {p n : A} (q : A) → ok p → shape p ≡ to q → Acts shape ok f q n → Acts shape ok f p n
  a_none : {n : A} → Acts shape ok empty n n
  a_one : {a b : ℕ} {p n : A} → ok p → shape p ≡ leaf a b n → Acts shape ok (one a b) p n
  a_seq : {f g : Form} {p n : A} (m : A) → Acts shape ok f p m → Acts shape ok g m n → Acts shape ok (seq f g) p n
  a_or : {f g : Form} {p n : A} (q r : A) → ok p → shape p ≡ fork q r → Acts shape ok f q n → Acts shape ok g r n →
      Acts shape ok (or f g) p n
  a_many : {f : Form} {p n : A} (q : A) → ok p → shape p ≡ fork n q → Acts shape ok f q p → Acts shape ok (many f) p n

-- Two runs from p and q meet: stopped at n, both come there with the same text.
abbrev pub Meets : {A : Type 0} → (A → Bool) → (A → Shape A) → A → A → A → Type 0
Meets at_n shape p q n = Reached (ended at_n shape) (p, q) (n, n)

-- Two runs from i cross: one has come to m while the other is about to read one byte more before m, and from
-- there both come to n with the same text.
abbrev pub Crosses : {A : Type 0} → (A → Bool) → (A → Bool) → (A → Shape A) → A → A → A → Type 0
Crosses {A} at_m at_n shape i m n = (q : A) × Leaf (ended at_m shape q) × Reached (ended at_m shape) (i, i) (m, q) × Reached (ended at_n shape) (m, q) (n, n)

-- The empty text is of the form.
abbrev pub nullable : Form → Bool
nullable empty = true
nullable (one a b) = false
nullable (seq f g) = cond (nullable f) (nullable g) false
nullable (or f g) = cond (nullable f) true (nullable g)
nullable (many f) = true
