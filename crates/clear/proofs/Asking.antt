-- The conditions of a clear view, as what is asked of the automaton: sound and complete in one, by Decides.
use Rattle.std.proofs.Common.{◌≡◌, ℕ, Bool, true, false, not, ◌&&◌, eqb, [], Decides, refl, arith}
use Rattle.lens.specs.Forms.{Text, Form, empty, many, Matches, is_empty, exactly}
use Rattle.lens.specs.Clear.{CutOnce, Apart, PartsOnce}
use Rattle.automata.specs.Automaton.{Shape, Acts, a_none, Meets, Crosses}
use Rattle.automata.proofs.Ended.{bounds_at}
use Rattle.automata.proofs.Meet.{apart_sound, apart_complete, literal_sound, literal_complete}
use Rattle.automata.proofs.Cut.{cut_sound, cut_complete}
use Rattle.clear.specs.Filled.{Within}

-- Answers of yes and no
no_true : {X : Type 0} → false ≡ true → X
no_true e = let z : ◌≡◌ {A = ℕ} 0 1 = cc in absurd (omega arith)

pub decides_not : {P Q : Type 0} → (Q → P → ⊥) → ((P → ⊥) → Q) → (b : Bool) → Decides b P → Decides (not b) Q
decides_not sound complete true d = (λ e. no_true e, λ q. absurd (sound q (d.0 refl)))
decides_not sound complete false d = (λ e. complete (λ p. no_true (d.1 p)), λ q. refl)

pub decides_and : {P Q : Type 0} (a b : Bool) → Decides a P → Decides b Q → Decides (a && b) (P × Q)
decides_and true true d e = (λ x. (d.0 refl, e.0 refl), λ p. refl)
decides_and true false d e = (λ x. no_true x, λ p. e.1 p.1)
decides_and false b d e = (λ x. no_true x, λ p. d.1 p.0)

pub decides_as : {P Q : Type 0} (b : Bool) → (P → Q) → (Q → P) → Decides b P → Decides b Q
decides_as b f g d = (λ e. f (d.0 e), λ q. d.1 (g q))

pub decides_three : {P Q R : Type 0} (a b c : Bool) → Decides a P → Decides b Q → Decides c R → Decides ((a && b) && c) (P × Q × R)
decides_three a b c d e f = decides_as ((a && b) && c) (λ p. (p.0.0, p.0.1, p.1)) (λ p. ((p.0, p.1), p.2)) (decides_and (a && b) c (decides_and a b d e) f)

-- The conditions
module _ (shape : ℕ → Shape ℕ) {low high low' high' : ℕ} {f g : Form} {p q n : ℕ} (out : Within low high n → ⊥) (out' : Within low' high' n → ⊥) where
  pub decides_apart : Acts shape (Within low high) f p n → Acts shape (Within low' high') g q n → (b : Bool) → Decides b (Meets (λ s. eqb s n) shape p q n) → Decides (not b) (Apart f g)
  decides_apart a a' = decides_not (apart_sound shape _ (bounds_at n out) (bounds_at n out') a a') (apart_complete shape _ (bounds_at n out) (bounds_at n out') a a')

module _ (shape : ℕ → Shape ℕ) {low high low' high' : ℕ} {f g : Form} {p n : ℕ} (out : Within low high n → ⊥) (out' : Within low' high' n → ⊥) where
  pub decides_cut : (m : ℕ) → (Within low high m → ⊥) → Acts shape (Within low high) f p m → Acts shape (Within low' high') g m n → (b : Bool) → Decides b (Crosses (λ s. eqb s m) (λ s. eqb s n) shape p m n) → Decides (not b) (CutOnce f g)
  decides_cut m off a a' = decides_not (λ once h. cut_sound shape _ _ (bounds_at m off) (bounds_at n out) (bounds_at n out') a a' h once) (cut_complete shape _ _ (bounds_at m off) (bounds_at n out) (bounds_at n out') a a')

module _ (shape : ℕ → Shape ℕ) {low high low' high' : ℕ} {g : Form} {p q n : ℕ} (d : Text) (out : Within low high n → ⊥) (out' : Within low' high' n → ⊥) where
  pub decides_literal : Acts shape (Within low high) (exactly d) p n → Acts shape (Within low' high') g q n → (b : Bool) → Decides b (Meets (λ s. eqb s n) shape p q n) → Decides b (Matches g d)
  decides_literal a a' b = decides_as b (literal_sound shape _ d (bounds_at n out) (bounds_at n out') a a') (literal_complete shape _ d (bounds_at n out) (bounds_at n out') a a')

-- The empty text is of a form exactly if the form isn't apart from the empty form.
decides_some : {f : Form} (b : Bool) → Decides b (Apart f empty) → Decides b (Matches f [] → ⊥)
decides_some {f} b = decides_as b (λ apart m. apart [] m is_empty) (λ none u m e. only_empty (λ v. Matches f v → ⊥) none e m)
  where
    only_empty : (P : Text → Type 0) → P [] → {u : Text} → Matches empty u → P u
    only_empty P h is_empty = h

-- Parts once: the state m acts as many parts, and p as one of them; the empty text is no part.
module _ (shape : ℕ → Shape ℕ) {low high low' high' : ℕ} {f : Form} {p n : ℕ} (out : Within low high n → ⊥) (out' : Within low' high' n → ⊥) where
  pub decides_parts : (m : ℕ) → (Within low high m → ⊥) → Acts shape (Within low high) f p m → Acts shape (Within low' high') (many f) m n → (a b : Bool) → Decides a (Meets (λ s. eqb s m) shape p m m) → Decides b (Crosses (λ s. eqb s m) (λ s. eqb s n) shape p m n) → Decides (not a && not b) (PartsOnce f)
  decides_parts m off act act' a b d e =
      decides_and (not a) (not b)
      (decides_some (not a) (decides_apart shape off off act a_none a d))
      (decides_cut shape out out' m off act act' b e)
