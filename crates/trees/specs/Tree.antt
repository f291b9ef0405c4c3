-- The form that a node stands for, and what the text behind a part of it must be.
-- Not here: the words (Nodes), and what is found out about a text (Rows).
use Rattle.std.specs.Prelude.{◌≡◌, ℕ, List, [], ◌∷◌, ◌++◌}
use Rattle.lens.specs.Forms.{Text, Form, empty, one, seq, or, many, Matches}
use Rattle.trees.specs.declared.nodes.Node.TheVariants.{Empty, One, Seq, Or, Many, Same, Byte}
use Rattle.trees.specs.Nodes.{node_at}

-- `Grows words q f`: the node at the place q stands for the form f.
pub data Grows (words : List ℕ) : ℕ → Form → Type 0 where
  grows_empty : {q : ℕ} → node_at words q ≡ Empty → Grows words q empty
  grows_one : {q a b : ℕ} → node_at words q ≡ One a b → Grows words q (one a b)
  grows_seq : {q : ℕ} {f g : Form} (x y : ℕ) → node_at words q ≡ Seq x y → Grows words x f → Grows words y g → Grows words q (seq f g)
  grows_or : {q : ℕ} {f g : Form} (x y : ℕ) → node_at words q ≡ Or x y → Grows words x f → Grows words y g → Grows words q (or f g)
  grows_many : {q : ℕ} {f : Form} (x : ℕ) → node_at words q ≡ Many x → Grows words x f → Grows words q (many f)
  grows_same : {q : ℕ} {f : Form} (x : ℕ) → node_at words q ≡ Same x → Grows words x f → Grows words q f
  grows_byte : {q b : ℕ} {f : Form} (x : ℕ) → node_at words q ≡ Byte b x → Grows words x f → Grows words q (seq (one b b) f)

-- A stack is what a text must be: a text of its first form, then one of its second, and so on.
abbrev pub Stack : Type 0
Stack = List Form

pub data Fits : Stack → Text → Type 0 where
  fits_none : Fits [] []
  fits_more : {f : Form} {σ : Stack} (u v : Text) → Matches f u → Fits σ v → Fits (f ∷ σ) (u ++ v)

-- `Begins f σ t`: the text t begins with a text of the form f that is not empty, and the rest of t fits σ.
pub data Begins (f : Form) (σ : Stack) : Text → Type 0 where
  begins : (c : ℕ) (u v : Text) → Matches f (c ∷ u) → Fits σ v → Begins f σ (c ∷ (u ++ v))

-- `At words root q f σ`: within the tree at root stands f at the place q, and behind it the text must fit σ.
pub data At (words : List ℕ) (root : ℕ) : ℕ → Form → Stack → Type 0 where
  at_root : {f : Form} → Grows words root f → At words root root f []
  at_first : {f g : Form} {σ : Stack} (q x y : ℕ) → node_at words q ≡ Seq x y → Grows words x f → Grows words y g →
      At words root q (seq f g) σ → At words root x f (g ∷ σ)
  at_second : {f g : Form} {σ : Stack} (q x y : ℕ) → node_at words q ≡ Seq x y → Grows words x f → Grows words y g →
      At words root q (seq f g) σ → At words root y g σ
  at_left : {f g : Form} {σ : Stack} (q x y : ℕ) → node_at words q ≡ Or x y → Grows words x f → Grows words y g →
      At words root q (or f g) σ → At words root x f σ
  at_right : {f g : Form} {σ : Stack} (q x y : ℕ) → node_at words q ≡ Or x y → Grows words x f → Grows words y g →
      At words root q (or f g) σ → At words root y g σ
  at_many : {f : Form} {σ : Stack} (q x : ℕ) → node_at words q ≡ Many x → Grows words x f →
      At words root q (many f) σ → At words root x f (many f ∷ σ)
  at_same : {f : Form} {σ : Stack} (q x : ℕ) → node_at words q ≡ Same x → Grows words x f →
      At words root q f σ → At words root x f σ
  at_byte : {f : Form} {σ : Stack} (q b x : ℕ) → node_at words q ≡ Byte b x → Grows words x f →
      At words root q (seq (one b b) f) σ → At words root x f σ
