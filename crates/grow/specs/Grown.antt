-- What it means that the tree of a part of a row has grown. Its nodes stand at the places of the row.
use Rattle.std.specs.Prelude.{◌≡◌, ℕ, ◌+◌, ◌≢◌, List, length}
use Rattle.lens.specs.Forms.{exactly}
use Rattle.lens.specs.Views.{View, hide}
use Rattle.rows.specs.Rows.{form_row, text_row, view_row, FormFine, TextFine, ViewFine, Encodes}
use Rattle.rows.proofs.Tags.{hidden_row, HiddenFine}
use Rattle.clear.specs.declared.side.Side.{Side}
use Rattle.clear.specs.declared.side.Side.TheVariants.{Source, Look}
use Rattle.clear.specs.Sides.{side_form}
use Rattle.clear.specs.Filled.{Laid, Within}
use Rattle.trees.specs.declared.nodes.Node.{Node}
use Rattle.trees.specs.declared.nodes.Node.TheVariants.{None, Seq}
use Rattle.trees.specs.Nodes.{node_at, up_at, EachPart, Under, Linked}
use Rattle.trees.specs.Tree.{Grows}
use Rattle.grow.specs.Planted.{Planted}

-- The place p has the same node and the same parent in both.
pub record Alike (t t' : List ℕ) (p : ℕ) : Type 0 where
  pub node : node_at t' p ≡ node_at t p
  pub up : up_at t' p ≡ up_at t p

-- No node stands from `at` to e.
pub record Bare (t : List ℕ) (at e : ℕ) : Type 0 where
  pub none : (p : ℕ) → Within at e p → node_at t p ≡ None

-- The place q is linked as `Linked` asks of each of n places.
pub record LinkedAt (n : ℕ) (t : List ℕ) (q : ℕ) : Type 0 where
  pub parts : EachPart (Under n t q) (node_at t q)
  pub two : (x y : ℕ) → node_at t q ≡ Seq x y → x ≢ y

-- A tree of which T holds stands at `at`, below the node at `top`, and all places from `at` to e are linked.
pub record Rooted (n : ℕ) (t : List ℕ) (at e top : ℕ) (T : List ℕ → ℕ → Type 0) : Type 0 where
  pub tree : T t at
  pub under : up_at t at ≡ top
  pub linked : (q : ℕ) → Within at e q → LinkedAt n t q

-- Between t and t' such a tree has grown: it stands wherever the places from `at` to e are as in t'; all other places
-- are as they were.
pub record Grown (n : ℕ) (t t' : List ℕ) (at e top : ℕ) (T : List ℕ → ℕ → Type 0) : Type 0 where
  pub kept : (p : ℕ) → (Within at e p → ⊥) → Alike t t' p
  pub rooted : (t'' : List ℕ) → ((p : ℕ) → Within at e p → Alike t' t'' p) → Rooted n t'' at e top T

-- Whatever stands in the row s from `behind` on, its tree has grown at `at`, if no node stood there.
pub record PartGrows {A : Type 0} (row : A → List ℕ) (fine : A → Type 0) (T : A → List ℕ → ℕ → Type 0) (s : List ℕ) (at behind top : ℕ) (t t' : List ℕ) : Type 0 where
  pub grown : (x : A) (e : ℕ) → Laid row fine s behind e x → Bare t at e → Grown (length s) t t' at e top (T x)

abbrev pub FormGrows : List ℕ → ℕ → ℕ → List ℕ → List ℕ → Type 0
FormGrows s at = PartGrows form_row FormFine (λ f t q. Grows t q f) s at at

abbrev pub TextGrows : List ℕ → ℕ → ℕ → List ℕ → List ℕ → Type 0
TextGrows s at = PartGrows text_row TextFine (λ v t q. Grows t q (exactly v)) s at at

abbrev pub ViewGrows : Side → List ℕ → ℕ → ℕ → List ℕ → List ℕ → Type 0
ViewGrows side s at = PartGrows view_row ViewFine (λ v t q. Planted t side q v) s at at

-- The looks of a hide, of the form and the two texts behind it.
abbrev pub ShownGrows : List ℕ → ℕ → ℕ → List ℕ → List ℕ → Type 0
ShownGrows s at = PartGrows hidden_row HiddenFine (λ p t q. Planted t Look q (hide p.0 p.1.0 p.1.1)) s at (at + 1)

-- The node of a swap: its looks stand in the other order than its sources.
abbrev pub swapped : Side → ℕ → ℕ → Node
swapped Source x y = Seq x y
swapped Look x y = Seq y x

-- The tree t is that of one side of the view that the row s says: the root is the place 0, and there are as many places
-- as the row has bytes.
pub record TreeOf (side : Side) (s t : List ℕ) : Type 0 where
  pub grows : (v : View) → Encodes s v → Grows t 0 (side_form side v)
  pub planted : (v : View) → Encodes s v → Planted t side 0 v
  pub linked : (v : View) → Encodes s v → Linked (length s) t
