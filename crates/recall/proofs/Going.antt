-- The pass over a text, from one place to the one before it.
use Rattle.std.proofs.Common.{◌≡◌, ℕ, ◌+◌, ◌*◌, ◌<◌, eqb, List, length, get_or, Option, Some, ◌∙◌, subst, arith}
use Rattle.lens.specs.Forms.{Text}
use Rattle.trees.specs.declared.tree.Tree.{Tree}
use Rattle.trees.specs.declared.step.Spot.{Spot}
use Rattle.trees.specs.Rows.{Steps, Tabled}
use Rattle.trees.proofs.Tables.{tabled_more}
use Rattle.recall.specs.declared.memory.Memory.{Memory}
use Rattle.recall.specs.Memory.{Known}

-- The places from i on have their rows, and if a slot is named, it has the row of i.
pub record Filled (tree : Tree) (memory : Memory) (bits : List ℕ) (text : Text) (i : ℕ) (slot : Option ℕ) : Type 0 where
  pub same : memory.tree ≡ tree
  pub tabled : Tabled tree bits text i
  pub inside : (k : ℕ) → slot ≡ Some k → i < length text
  pub known : Known memory bits (i * tree.size) slot

-- The step of the spot of the place i.
module _ {memory : Memory} {spot : Spot} {bits : List ℕ} {text : Text} {p : ℕ} {slot : Option ℕ} (i : ℕ) (place : p ≡ i + 1)
    (row : spot.row ≡ i * spot.tree.size) (last : spot.last ≡ eqb (i + 1) (length text)) (f : Filled spot.tree memory bits text p slot) where
  pub filled_more : {memory' : Memory} {bits' : List ℕ} {slot' : Option ℕ} → i < length text → spot.byte ≡ get_or text i 0 →
      memory'.tree ≡ memory.tree → Steps spot bits bits' 0 → Known memory' bits' spot.row slot' → Filled spot.tree memory' bits' text i slot'
  filled_more {memory'} {bits'} {slot'} l byte same steps known = record {
    same = same ∙ f.same;
    tabled = tabled_more spot i text row last byte (omega arith) l f.tabled steps;
    inside = λ k is. l;
    known = subst (λ r. Known memory' bits' r slot') row known;
  }
