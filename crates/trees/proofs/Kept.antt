-- What a tree, and a text with its table, keep as facts of their own. A fact that a value keeps says only that there is a proof;
-- here the proof is got back, since each part of it can be told.
use Rattle.std.proofs.Common.{◌≡◌, ℕ, ◌<◌, ◌≤◌, Bool, true, false, List, Decides, refl, inl, inr, arith}
use Rattle.std.proofs.lemmas.Grind.{not_there}
use Rattle.std.proofs.lemmas.Bool.{cases_eq, cases_lt}
use borrow.Author.Tests.{clash}
use Rattle.trees.specs.declared.nodes.Node.{Node}
use Rattle.trees.specs.declared.nodes.Node.TheVariants.{None, Empty, One, Seq, Or, Many, Same, Byte}
use Rattle.trees.specs.declared.tree.Tree.{Tree}
use Rattle.trees.specs.declared.scanned.Scanned.{Scanned}
use Rattle.trees.specs.Nodes.{EachPart, Under}
use Rattle.trees.specs.Ready.{Ready}
use Rattle.lens.specs.Forms.{Form}
use Rattle.trees.specs.Tree.{Stack}
use Rattle.trees.specs.Rows.{Stands, Tabled}
use Rattle.trees.proofs.Told.{Told, told_empty, told_begins}
use Rattle.trees.proofs.Within.{at_within}

-- T says what is to be got back.
module _ {T : Type 0} (t : ∥ T ∥₁) where
  pub sure_less : {a b : ℕ} → (T → a < b) → a < b
  sure_less {a} {b} h = elim (cases_lt a b) [ inl less ↦ less | inr none ↦ absurd (not_there t (λ x. let l = h x in omega arith)) ]

  sure_equal : {a b : ℕ} → (T → a ≡ b) → a ≡ b
  sure_equal {a} {b} h = elim (cases_eq a b) [ inl same ↦ same | inr other ↦ absurd (not_there t (λ x. other (h x))) ]

  sure_under : {n q x : ℕ} {words : List ℕ} → (T → Under n words q x) → Under n words q x
  sure_under h = record {
    behind = sure_less (λ x. (h x).behind);
    below = sure_less (λ x. (h x).below);
    parent = sure_equal (λ x. (h x).parent);
  }

  sure_parts : (n q : ℕ) (words : List ℕ) (made : Node) → (T → EachPart (Under n words q) made) → EachPart (Under n words q) made
  sure_parts n q words None h = tt
  sure_parts n q words Empty h = tt
  sure_parts n q words (One low high) h = tt
  sure_parts n q words (Seq x y) h = (sure_under (λ x. (h x).0), sure_under (λ x. (h x).1))
  sure_parts n q words (Or x y) h = (sure_under (λ x. (h x).0), sure_under (λ x. (h x).1))
  sure_parts n q words (Many x) h = sure_under h
  sure_parts n q words (Same x) h = sure_under h
  sure_parts n q words (Byte b x) h = sure_under h

  pub sure_decides : {P : Type 0} (b : Bool) → Told P → (T → Decides b P) → Decides b P
  sure_decides true (inl p) h = (λ e. p, λ p. refl)
  sure_decides false (inl p) h = absurd (not_there t (λ x. clash ((h x).1 p)))
  sure_decides b (inr none) h = (λ e. absurd (not_there t (λ x. none ((h x).0 e))), λ p. absurd (none p))

pub ready_of : {words null : List ℕ} {size root : ℕ} → ∥ Ready words null size root ∥₁ → Ready words null size root
ready_of t = record {
  linked = record {
    parts = λ q l. sure_parts t _ q _ _ (λ x. x.linked.parts q l);
    two = λ q x y l e same. not_there t (λ r. r.linked.two q x y l e same);
  };
  inside = sure_less t (λ x. x.inside);
  nulls = record { tells = λ q f low l a. sure_decides t _ (told_empty f) (λ x. x.nulls.tells q f low l a) };
}

-- Where the nodes of a tree stand.
pub stands_within : (tree : Tree) {q : ℕ} {f : Form} {σ : Stack} → Stands tree q f σ → (tree.root ≤ q) × (q < tree.size)
stands_within tree at = let ready = ready_of tree.ready in at_within ready.linked ready.inside at

pub tabled_of : (scanned : Scanned) → Tabled scanned.tree scanned.starts.now scanned.text.now 0
tabled_of scanned = record {
  rows = λ i first l. record {
    tells = λ q f σ low at. sure_decides scanned.tabled _ (told_begins f σ _) (λ x. (x.rows i first l).tells q f σ low at);
  };
}
