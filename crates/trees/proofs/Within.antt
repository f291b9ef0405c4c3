-- Where the nodes of a linked tree stand.
use Rattle.std.proofs.Common.{◌≡◌, ℕ, ◌<◌, ◌≤◌, List, subst, le_refl, arith}
use Rattle.lens.specs.Forms.{Form}
use Rattle.trees.specs.declared.nodes.Node.{Node}
use Rattle.trees.specs.Nodes.{node_at, EachPart, Under, Linked}
use Rattle.trees.specs.Tree.{Stack, Grows, At, at_root, at_first, at_second, at_left, at_right, at_many, at_same, at_byte}

-- What stands at a place grows there.
pub at_grows : {words : List ℕ} {root q : ℕ} {f : Form} {σ : Stack} → At words root q f σ → Grows words q f
at_grows (at_root a) = a
at_grows (at_first q x y e a b at) = a
at_grows (at_second q x y e a b at) = b
at_grows (at_left q x y e a b at) = a
at_grows (at_right q x y e a b at) = b
at_grows (at_many q x e a at) = a
at_grows (at_same q x e a at) = a
at_grows (at_byte q b x e a at) = a

-- The parts of a node, once it is known which node it is.
pub parts_of : {n q : ℕ} {words : List ℕ} → Linked n words → (made : Node) → q < n → node_at words q ≡ made →
    EachPart (Under n words q) made
parts_of {n} {q} {words} linked made l e = subst (EachPart (Under n words q)) e (linked.parts q l)

module _ {n root : ℕ} {words : List ℕ} (linked : Linked n words) (inside : root < n) where
  -- A place of the tree is neither before the root nor past the last place.
  abbrev Within : ℕ → Type 0
  Within q = (root ≤ q) × (q < n)

  under_within : {q x : ℕ} → Within q → Under n words q x → Within x
  under_within w u = (omega (arith, w.0, u.behind), u.below)

  pub at_within : {q : ℕ} {f : Form} {σ : Stack} → At words root q f σ → Within q
  at_within (at_root a) = (le_refl root, inside)
  at_within (at_first q x y e a b at) = let w = at_within at in under_within w (parts_of linked _ w.1 e).0
  at_within (at_second q x y e a b at) = let w = at_within at in under_within w (parts_of linked _ w.1 e).1
  at_within (at_left q x y e a b at) = let w = at_within at in under_within w (parts_of linked _ w.1 e).0
  at_within (at_right q x y e a b at) = let w = at_within at in under_within w (parts_of linked _ w.1 e).1
  at_within (at_many q x e a at) = let w = at_within at in under_within w (parts_of linked _ w.1 e)
  at_within (at_same q x e a at) = let w = at_within at in under_within w (parts_of linked _ w.1 e)
  at_within (at_byte q b x e a at) = let w = at_within at in under_within w (parts_of linked _ w.1 e)
