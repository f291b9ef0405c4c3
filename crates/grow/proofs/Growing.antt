-- How a node and the trees of its parts grow together.
use Rattle.std.proofs.Common.{◌≡◌, ℕ, ◌+◌, ◌<◌, ◌≤◌, ◌≢◌, List, sym, ◌∙◌, subst, arith}
use native.Mathlib.Decide.{dec_lt}
use Rattle.clear.specs.Filled.{Within}
use Rattle.trees.specs.declared.nodes.Node.{Node}
use Rattle.trees.specs.declared.nodes.Node.TheVariants.{None, Seq, Or, Many, Same}
use Rattle.trees.specs.Nodes.{node_at, up_at, Changed, EachPart, Under}
use Rattle.grow.specs.Grown.{Alike, Bare, LinkedAt, Rooted, Grown}

-- Places that stay as they are
module _ {t t' t'' : List ℕ} {p : ℕ} where
  pub after : Alike t t' p → Alike t' t'' p → Alike t t'' p
  after a b = record { node = b.node ∙ a.node; up = b.up ∙ a.up }

pub beside : {t t' : List ℕ} {q top : ℕ} {made : Node} → Changed t t' q made top → (p : ℕ) → p ≢ q → Alike t t' p
beside c p other = record { node = c.elsewhere p other; up = c.elsewhere_under p other }

pub still_bare : {t t' : List ℕ} {at e low high : ℕ} → at ≤ low → high ≤ e → ((p : ℕ) → Within low high p → Alike t t' p) → Bare t at e → Bare t' low high
still_bare h h' same bare = record { none = λ p w. (same p w).node ∙ bare.none p (omega arith) }

-- One node: linked by its parts, above places that are linked
module _ {n : ℕ} {t : List ℕ} {q : ℕ} where
  pub linked_made : (made : Node) → node_at t q ≡ made → EachPart (Under n t q) made → ((x y : ℕ) → made ≡ Seq x y → x ≢ y) → LinkedAt n t q
  linked_made made is parts two = record { parts = subst (EachPart (Under n t q)) (sym is) parts; two = λ x y e. two x y (sym is ∙ e) }

  pub linked_none : node_at t q ≡ None → LinkedAt n t q
  linked_none is = linked_made None is tt (λ x y e. let z : ◌≡◌ {A = ℕ} 0 1 = cc in absurd (omega arith))

pub rooted_node : {n : ℕ} {t : List ℕ} {at e top : ℕ} {T : List ℕ → ℕ → Type 0} → up_at t at ≡ top → T t at → LinkedAt n t at → ((q : ℕ) → Within (at + 1) e q → LinkedAt n t q) → Rooted n t at e top T
rooted_node {n} {t} {at} {e} {top} {T} under tree here others = record {
  tree = tree;
  under = under;
  linked = λ q w. elim (dec_lt at q) [ yes l ↦ others q (omega arith) | no l ↦ let same : at ≡ q = omega arith in subst (LinkedAt n t) same here ];
}

-- A node with no parts
pub grown_leaf : {n : ℕ} {t₀ t₁ : List ℕ} {at e top : ℕ} {T : List ℕ → ℕ → Type 0} (made : Node) → ((t : List ℕ) → node_at t at ≡ made → T t at × LinkedAt n t at) → Changed t₀ t₁ at made top → Bare t₀ at e → at < e → Grown n t₀ t₁ at e top T
grown_leaf {n} {t₀} {t₁} {at} {e} {top} {T} made leaf c bare h = record {
  kept = λ p out. beside c p (λ same. out (omega arith));
  rooted = λ t same.
      let here = same at (omega arith) in
      let (tree, linked) = leaf t (here.node ∙ c.here) in
      rooted_node (here.up ∙ c.under) tree linked
      (λ q w. linked_none ((same q (omega arith)).node ∙ c.elsewhere q (λ z. omega arith) ∙ bare.none q (omega arith)));
}

-- A node with two parts
pub record Joins (made : ℕ → ℕ → Node) : Type 0 where
  pub parts : (n : ℕ) (t : List ℕ) (q x y : ℕ) → Under n t q x → Under n t q y → EachPart (Under n t q) (made x y)
  pub two : (x y x' y' : ℕ) → x ≢ y → made x y ≡ Seq x' y' → x' ≢ y'

pub joins_seq : Joins (λ x y. Seq x y)
joins_seq = record { parts = λ n t q x y a b. (a, b); two = λ x y x' y' ne e same. ne (cc) }

pub joins_turned : Joins (λ x y. Seq y x)
joins_turned = record { parts = λ n t q x y a b. (b, a); two = λ x y x' y' ne e same. ne (cc) }

pub joins_or : Joins (λ x y. Or x y)
joins_or = record { parts = λ n t q x y a b. (a, b); two = λ x y x' y' ne e. let z : ◌≡◌ {A = ℕ} 0 1 = cc in absurd (omega arith) }

module _ {n : ℕ} {t₀ t₁ t₂ t₃ : List ℕ} {at i m e top : ℕ} {F G : List ℕ → ℕ → Type 0} {made : ℕ → ℕ → Node} (j : Joins made) (c : Changed t₀ t₁ at (made i m) top) (a : Grown n t₁ t₂ i m at F) (b : Grown n t₂ t₃ m e at G) (i_is : i ≡ at + 1) (h : i < m) (h' : m < e) (h'' : e ≤ n) where
  two_rooted : {T : List ℕ → ℕ → Type 0} → ((t : List ℕ) → node_at t at ≡ made i m → F t i → G t m → T t at) → (t : List ℕ) → ((p : ℕ) → Within at e p → Alike t₃ t p) → Rooted n t at e top T
  two_rooted whole t same =
      let first : Rooted n t i m at F = a.rooted t (λ p w. after (b.kept p (λ v. omega arith)) (same p (omega arith))) in
      let second : Rooted n t m e at G = b.rooted t (λ p w. same p (omega arith)) in
      let here : Alike t₁ t at = after (a.kept at (λ w. omega arith)) (after (b.kept at (λ w. omega arith)) (same at (omega arith))) in
      let is = here.node ∙ c.here in
      let under_first : Under n t at i = record { behind = omega arith; below = omega arith; parent = first.under } in
      let under_second : Under n t at m = record { behind = omega arith; below = omega arith; parent = second.under } in
      rooted_node (here.up ∙ c.under) (whole t is first.tree second.tree)
      (linked_made (made i m) is (j.parts n t at i m under_first under_second) (λ x y. j.two i m x y (λ z. omega arith)))
      (λ q w. elim (dec_lt q m) [ yes l ↦ first.linked q (omega arith) | no l ↦ second.linked q (omega arith) ])

  pub grown_two : {T : List ℕ → ℕ → Type 0} → ((t : List ℕ) → node_at t at ≡ made i m → F t i → G t m → T t at) → Grown n t₀ t₃ at e top T
  grown_two whole = record {
    kept = λ p out. after (beside c p (λ same. out (omega arith))) (after (a.kept p (λ w. out (omega arith))) (b.kept p (λ w. out (omega arith))));
    rooted = two_rooted whole;
  }

-- A node with one part, which may stand within what is behind the node
pub record Wraps (made : ℕ → Node) : Type 0 where
  pub parts : (n : ℕ) (t : List ℕ) (q x : ℕ) → Under n t q x → EachPart (Under n t q) (made x)
  pub two : (x x' y' : ℕ) → made x ≡ Seq x' y' → x' ≢ y'

pub wraps_same : Wraps (λ x. Same x)
wraps_same = record { parts = λ n t q x a. a; two = λ x x' y' e. let z : ◌≡◌ {A = ℕ} 0 1 = cc in absurd (omega arith) }

pub wraps_many : Wraps (λ x. Many x)
wraps_many = record { parts = λ n t q x a. a; two = λ x x' y' e. let z : ◌≡◌ {A = ℕ} 0 1 = cc in absurd (omega arith) }

module _ {n : ℕ} {t₀ t₁ t₂ : List ℕ} {at low m e top : ℕ} {F : List ℕ → ℕ → Type 0} {made : ℕ → Node} (j : Wraps made) (c : Changed t₀ t₁ at (made low) top) (bare : Bare t₀ at e) (a : Grown n t₁ t₂ low m at F) (h : at < low) (h' : low < m) (h'' : m ≤ e) (k : e ≤ n) where
  one_linked : (t : List ℕ) → ((p : ℕ) → Within at e p → Alike t₂ t p) → Rooted n t low m at F → (q : ℕ) → Within (at + 1) e q → LinkedAt n t q
  one_linked t same body q w =
      elim (dec_lt q low) [ yes l ↦ gap (λ v. omega arith) | no l ↦ elim (dec_lt q m) [ yes l' ↦ body.linked q (omega arith) | no l' ↦ gap (λ v. omega arith) ] ]
    where
      gap : (Within low m q → ⊥) → LinkedAt n t q
      gap out = linked_none ((same q (omega arith)).node ∙ (a.kept q out).node ∙ c.elsewhere q (λ z. omega arith) ∙ bare.none q (omega arith))

  one_rooted : {T : List ℕ → ℕ → Type 0} → ((t : List ℕ) → node_at t at ≡ made low → F t low → T t at) → (t : List ℕ) → ((p : ℕ) → Within at e p → Alike t₂ t p) → Rooted n t at e top T
  one_rooted whole t same =
      let body : Rooted n t low m at F = a.rooted t (λ p w. same p (omega arith)) in
      let here : Alike t₁ t at = after (a.kept at (λ w. omega arith)) (same at (omega arith)) in
      let is = here.node ∙ c.here in
      let under_body : Under n t at low = record { behind = h; below = omega arith; parent = body.under } in
      rooted_node (here.up ∙ c.under) (whole t is body.tree)
      (linked_made (made low) is (j.parts n t at low under_body) (j.two low))
      (one_linked t same body)

  pub grown_one : {T : List ℕ → ℕ → Type 0} → ((t : List ℕ) → node_at t at ≡ made low → F t low → T t at) → Grown n t₀ t₂ at e top T
  grown_one whole = record { kept = λ p out. after (beside c p (λ same. out (omega arith))) (a.kept p (λ w. out (omega arith))); rooted = one_rooted whole }
