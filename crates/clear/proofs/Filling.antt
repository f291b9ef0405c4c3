-- How states that are laid one after the other act together: one lemma for each kind of node.
use Rattle.std.proofs.Common.{◌≡◌, ℕ, ◌+◌, ◌<◌, ◌≤◌, List, refl, ◌∙◌, arith}
use Rattle.lens.specs.Forms.{Form, empty, one, seq, or, many}
use Rattle.automata.specs.Automaton.{Shape, to, fork, leaf, Acts, a_pass, a_none, a_one, a_seq, a_or, a_many}
use Rattle.automata.proofs.Acting.{acts_alike}
use Rattle.pairs.specs.Table.{shape_at, Changed}
use Rattle.clear.specs.Filled.{Within, Filled}

-- A wider range
wider : {at e low high : ℕ} → low ≤ at → e ≤ high → (p : ℕ) → Within at e p → Within low high p
wider l h p w = (omega arith, omega arith)

-- The states of f act on as they did after states outside were changed.
still : (t t' : List ℕ) {at e low high from next : ℕ} {f : Form} → low ≤ at → e ≤ high → ((p : ℕ) → Within at e p → shape_at t' p ≡ shape_at t p) → Acts (shape_at t) (Within at e) f from next → Acts (shape_at t') (Within low high) f from next
still t t' l h same a = acts_alike (wider l h) same a

-- Leaves
pub filled_empty : {t t' : List ℕ} {at next : ℕ} → Changed t t' at (to next) → Filled t t' at (at + 1) at next empty
filled_empty {at = at} c = record { acts = a_pass _ (omega arith) c.here a_none; kept = λ p out. c.elsewhere p (λ same. out (omega arith)) }

pub filled_one : {t t' : List ℕ} {at next a b : ℕ} → Changed t t' at (leaf a b next) → Filled t t' at (at + 3) at next (one a b)
filled_one c = record { acts = a_one (omega arith) c.here; kept = λ p out. c.elsewhere p (λ same. out (omega arith)) }

-- Nodes over two parts: the node was changed, then the first part was laid, then the second, somewhere behind it
module _ {t₀ t₁ t₂ t₃ : List ℕ} {at m low e from₁ from₂ next₁ next₂ : ℕ} {f g : Form} {s : Shape ℕ} (c : Changed t₀ t₁ at s) (a : Filled t₁ t₂ (at + 1) m from₁ next₁ f) (b : Filled t₂ t₃ low e from₂ next₂ g) (h : at < m) (h' : m ≤ low) (h'' : low < e) where
  node_here : shape_at t₃ at ≡ s
  node_here = b.kept at (λ w. omega arith) ∙ a.kept at (λ w. omega arith) ∙ c.here

  pub first_acts : {start end : ℕ} → start ≤ at + 1 → m ≤ end → Acts (shape_at t₃) (Within start end) f from₁ next₁
  first_acts l k = still t₂ t₃ l k (λ p w. b.kept p (λ v. omega arith)) a.acts

  pub second_acts : {start end : ℕ} → start ≤ low → e ≤ end → Acts (shape_at t₃) (Within start end) g from₂ next₂
  second_acts l k = still t₃ t₃ l k (λ p w. refl) b.acts

  pub two_kept : (p : ℕ) → (Within at e p → ⊥) → shape_at t₃ p ≡ shape_at t₀ p
  two_kept p out = b.kept p (λ w. out (omega arith)) ∙ a.kept p (λ w. out (omega arith)) ∙ c.elsewhere p (λ same. out (omega arith))

  -- a node that only goes on at its first part
  pub filled_first : s ≡ to from₁ → Filled t₀ t₃ at e at next₁ f
  filled_first is = record { acts = a_pass from₁ (omega arith) (node_here ∙ is) (first_acts (omega arith) (omega arith)); kept = two_kept }

pub filled_seq : {t₀ t₁ t₂ t₃ : List ℕ} {at m e next : ℕ} {f g : Form} → Changed t₀ t₁ at (to (at + 1)) → Filled t₁ t₂ (at + 1) m (at + 1) m f → Filled t₂ t₃ m e m next g → at < m → m < e → Filled t₀ t₃ at e at next (seq f g)
filled_seq {at = at} {m = m} c a b h h' = record { acts = a_pass (at + 1) (omega arith) (node_here c a b h (omega arith) h') (a_seq m (first_acts c a b h (omega arith) h' (omega arith) (omega arith)) (second_acts c a b h (omega arith) h' (omega arith) (omega arith))); kept = two_kept c a b h (omega arith) h' }

-- the second part is read first
pub filled_turned : {t₀ t₁ t₂ t₃ : List ℕ} {at m e next : ℕ} {f g : Form} → Changed t₀ t₁ at (to m) → Filled t₁ t₂ (at + 1) m (at + 1) next f → Filled t₂ t₃ m e m (at + 1) g → at < m → m < e → Filled t₀ t₃ at e at next (seq g f)
filled_turned {at = at} {m = m} c a b h h' = record { acts = a_pass m (omega arith) (node_here c a b h (omega arith) h') (a_seq (at + 1) (second_acts c a b h (omega arith) h' (omega arith) (omega arith)) (first_acts c a b h (omega arith) h' (omega arith) (omega arith))); kept = two_kept c a b h (omega arith) h' }

pub filled_or : {t₀ t₁ t₂ t₃ : List ℕ} {at m e next : ℕ} {f g : Form} → Changed t₀ t₁ at (fork (at + 1) m) → Filled t₁ t₂ (at + 1) m (at + 1) next f → Filled t₂ t₃ m e m next g → at < m → m < e → Filled t₀ t₃ at e at next (or f g)
filled_or {at = at} {m = m} c a b h h' = record { acts = a_or (at + 1) m (omega arith) (node_here c a b h (omega arith) h') (first_acts c a b h (omega arith) h' (omega arith) (omega arith)) (second_acts c a b h (omega arith) h' (omega arith) (omega arith)); kept = two_kept c a b h (omega arith) h' }

-- Nodes over one part, which may stand in a part of what is behind the node
module _ {t₀ t₁ t₂ : List ℕ} {at m e from next : ℕ} {f : Form} {s : Shape ℕ} (c : Changed t₀ t₁ at s) (low : ℕ) (a : Filled t₁ t₂ low m from next f) (h : at < low) (h' : m ≤ e) (h'' : low < m) where
  body_node : shape_at t₂ at ≡ s
  body_node = a.kept at (λ w. omega arith) ∙ c.here

  body_acts : Acts (shape_at t₂) (Within at e) f from next
  body_acts = still t₂ t₂ (omega arith) h' (λ p w. refl) a.acts

  pub one_kept : (p : ℕ) → (Within at e p → ⊥) → shape_at t₂ p ≡ shape_at t₀ p
  one_kept p out = a.kept p (λ w. out (omega arith)) ∙ c.elsewhere p (λ same. out (omega arith))

pub filled_many : {t₀ t₁ t₂ : List ℕ} {at e next : ℕ} {f : Form} → Changed t₀ t₁ at (fork next (at + 1)) → Filled t₁ t₂ (at + 1) e (at + 1) at f → at + 1 < e → Filled t₀ t₂ at e at next (many f)
filled_many {at = at} {e = e} c a h = record { acts = a_many (at + 1) (omega arith) (body_node {e = e} c (at + 1) a (omega arith) (omega arith) h) (body_acts {e = e} c (at + 1) a (omega arith) (omega arith) h); kept = one_kept c (at + 1) a (omega arith) (omega arith) h }

-- a node that only goes on at its part, in the range from low to m
pub filled_pass : {t₀ t₁ t₂ : List ℕ} {at m e next : ℕ} {f : Form} (low : ℕ) → Changed t₀ t₁ at (to low) → Filled t₁ t₂ low m low next f → at < low → low < m → m ≤ e → Filled t₀ t₂ at e at next f
filled_pass {e = e} low c a h h' h'' = record { acts = a_pass low (omega arith) (body_node {e = e} c low a h h'' h') (body_acts {e = e} c low a h h'' h'); kept = one_kept c low a h h'' h' }
