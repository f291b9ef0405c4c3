-- Which side of an either the cut took, by what begins and by the empty text.
use Rattle.std.proofs.Common.{◌≡◌, ℕ, Bool, false, [], Decides, sym, ◌∙◌, inr, zero-le}
use borrow.Author.Tests.{clash}
use Rattle.std.proofs.lemmas.Bool.{both_ways}
use Rattle.lens.specs.Forms.{Form, Matches}
use Rattle.bits.specs.Bits.{bit}
use Rattle.trees.specs.declared.tree.Tree.{Tree}
use Rattle.trees.specs.Tree.{Stack, At}
use Rattle.trees.specs.declared.scanned.Scanned.{Scanned}
use Rattle.trees.specs.Rows.{BeginsAt}
use Rattle.trees.proofs.Kept.{ready_of, stands_within}
use Rattle.trees.proofs.Within.{at_grows}
use Rattle.walk.specs.Walks.{Chooses}

-- The bit of a node that stands in the tree says whether it has the empty text.
null_tells : (tree : Tree) {q : ℕ} {f : Form} {σ : Stack} → At tree.words.now tree.root q f σ → Decides (bit tree.null.now q) (Matches f [])
null_tells tree {q} {f} at = (ready_of tree.ready).nulls.tells q f zero-le (stands_within tree at).1 (at_grows at)

module _ {scanned : Scanned} {x y i : ℕ} where
  -- None begins.
  pub chooses_null : BeginsAt scanned.tree scanned.text.now i x false → BeginsAt scanned.tree scanned.text.now i y false → (r : Bool) → r ≡ bit scanned.tree.null.now x → Chooses scanned x y i r
  chooses_null b b' r is = record {
    left = λ e f g σ at at'. inr ((null_tells scanned.tree at).0 (sym is ∙ e), λ begin. clash ((b'.tells g σ at').1 begin));
    right = λ e f g σ at at'. (λ begin. clash ((b.tells f σ at).1 begin), inr (λ m. both_ways _ (sym is ∙ e) ((null_tells scanned.tree at).1 m)));
  }
