-- Answers that are known from the start, and one that is a comparison.
use Rattle.std.proofs.Common.{ℕ, ◌≤◌, true, false, leb, Decides, refl}
use borrow.Author.Tests.{clash}
use Rattle.std.proofs.lemmas.Bool.{leb-true, le-leb}

pub decides_true : {P : Type 0} → P → Decides true P
decides_true p = (λ e. p, λ h. refl)

pub decides_false : {P : Type 0} → (P → ⊥) → Decides false P
decides_false no_p = (λ e. absurd (clash e), λ p. absurd (no_p p))

pub decides_leb : (a b : ℕ) → Decides (leb a b) (a ≤ b)
decides_leb a b = (leb-true a b, le-leb a b)
