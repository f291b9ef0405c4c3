-- The words of a tree, after a node is put there.
use Rattle.std.proofs.Common.{◌≡◌, ℕ, List, [], ◌∷◌, get_or, ap, ◌∙◌}
use Rattle.records.specs.Records.{PutsRecord}
use Rattle.trees.specs.declared.nodes.Node.{Node}
use Rattle.trees.specs.Nodes.{node_of, node_of_words, Changed}

pub puts_change : {old new : List ℕ} {q kind x y up : ℕ} {made : Node} → PutsRecord old q (kind ∷ x ∷ y ∷ up ∷ []) new → node_of kind x y ≡ made →
    Changed old new q made up
puts_change puts e = record {
  here = ap node_of_words puts.here ∙ e;
  under = ap (λ w. get_or w 3 0) puts.here;
  elsewhere = λ p ne. ap node_of_words (puts.others p ne);
  elsewhere_under = λ p ne. ap (λ w. get_or w 3 0) (puts.others p ne);
}
