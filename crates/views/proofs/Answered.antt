-- The answers of `judge`: each says what it should, and few exactly below the floor.
use Rattle.std.proofs.Common.{◌≡◌, ℕ, ◌<◌, ◌≤◌, true, false, List, sym, refl, subst, arith}
use Rattle.std.proofs.lemmas.Bool.{both_ways}
use Rattle.lens.proofs.Works.{clear_works}
use Rattle.lens.proofs.Lawful.{clear_lawful}
use Rattle.lens.proofs.Edits.{clear_lasting}
use Rattle.lens.specs.Views.{View}
use Rattle.rows.specs.Rows.{Encodes}
use Rattle.rows.proofs.Unique.{one_view}
use Rattle.automata.proofs.Told.{told}
use Rattle.clear.specs.Verdict.{Tells}
use Rattle.views.specs.declared.judging.Judged.{Judged}
use Rattle.views.specs.declared.judging.Judged.TheVariants.{Plain, Unclear, NoView, Few}
use Rattle.views.specs.Theorems.{Theorems}
use Rattle.views.specs.Judged.{JudgedSays, floor, JudgedPost}

pub theorems : Theorems
theorems = record { one_view = one_view; told = told; works = clear_works; lawful = clear_lawful; lasting = clear_lasting }

-- The other answers are not few.
abbrev IsFew : Judged → Type 0
IsFew Plain = ⊥
IsFew Unclear = ⊥
IsFew NoView = ⊥
IsFew Few = Unit {0}

enough : {s : List ℕ} {w : ℕ} {r : Judged} → floor s ≤ w → (r ≡ Few → ⊥) → JudgedSays s r → JudgedPost s w r
enough h other says = record { says = says; few = (λ l. absurd (omega arith), λ e. absurd (other e)); theorems = theorems }

pub judged_few : {s : List ℕ} {w : ℕ} → w < floor s → JudgedPost s w Few
judged_few h = record { says = tt; few = (λ l. refl, λ e. h); theorems = theorems }

pub judged_no_view : {s : List ℕ} {w : ℕ} → floor s ≤ w → ((v : View) → Encodes s v → ⊥) → JudgedPost s w NoView
judged_no_view h none = enough h (λ e. subst IsFew (sym e) tt) none

module _ {s : List ℕ} {w : ℕ} {r : _} (h : floor s ≤ w) (is : (v : View) × Encodes s v) (tells : Tells s r) where
  pub judged_plain : r.yes ≡ true → JudgedPost s w Plain
  judged_plain e = let (v, encodes) = is in enough h (λ e. subst IsFew (sym e) tt) (v, encodes, (tells.tells v encodes).0 e)

  pub judged_unclear : r.yes ≡ false → JudgedPost s w Unclear
  judged_unclear e =
      let (v, encodes) = is in
      enough h (λ e. subst IsFew (sym e) tt) (v, encodes, λ c. both_ways _ e ((tells.tells v encodes).1 c))
