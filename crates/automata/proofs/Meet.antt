-- Two forms have a text in common if and only if their runs meet: so it is told whether forms are apart, and
-- whether a text is of a form (the form of that text alone meets it).
use mathlib.Core.Bool.{Bool}
use Rattle.lens.specs.Forms.{Text, Form, Matches, exactly}
use Rattle.lens.specs.Clear.{Apart}
use Rattle.lens.proofs.Inversions.{exactly_matches, on_exactly}
use Rattle.automata.specs.Automaton.{Shape, ended, Bounds, Acts, Meets}
use Rattle.automata.proofs.Acting.{acts_eat}
use Rattle.automata.proofs.Paths.{path_eats, runs_meet}
use Rattle.automata.proofs.Ended.{ended_stops, ended_acts, ended_reads}

module _ {A : Type 0} (shape : A → Shape A) (at_n : A → Bool) {ok ok' : A → Type 0} {f g : Form} {p q n : A} (b : Bounds at_n ok n)
    (b' : Bounds at_n ok' n) (a : Acts shape ok f p n) (a' : Acts shape ok' g q n) where
  pub meet_sound : Meets at_n shape p q n → (u : Text) × Matches f u × Matches g u
  meet_sound h = let (u, r, s) = path_eats (ended at_n shape) h in (u, ended_reads b shape a r, ended_reads b' shape a' s)

  pub meet_complete : (u : Text) → Matches f u → Matches g u → Meets at_n shape p q n
  meet_complete u x y = runs_meet (ended at_n shape) p q n u (ended_stops b shape) (acts_eat (ended at_n shape) (ended_acts b shape a) x) (acts_eat (ended at_n shape) (ended_acts b' shape a') y)

  pub apart_sound : Apart f g → Meets at_n shape p q n → ⊥
  apart_sound h m = let (u, x, y) = meet_sound m in h u x y

  pub apart_complete : (Meets at_n shape p q n → ⊥) → Apart f g
  apart_complete h u x y = h (meet_complete u x y)

-- A text against a form
module _ {A : Type 0} (shape : A → Shape A) (at_n : A → Bool) {ok ok' : A → Type 0} {g : Form} {p q n : A} (d : Text)
    (b : Bounds at_n ok n) (b' : Bounds at_n ok' n) (a : Acts shape ok (exactly d) p n) (a' : Acts shape ok' g q n) where
  pub literal_sound : Meets at_n shape p q n → Matches g d
  literal_sound m = let (u, x, y) = meet_sound shape at_n b b' a a' m in on_exactly d (λ v. Matches g v → Matches g d) x (λ z. z) y

  pub literal_complete : Matches g d → Meets at_n shape p q n
  literal_complete y = meet_complete shape at_n b b' a a' d (exactly_matches d) y
