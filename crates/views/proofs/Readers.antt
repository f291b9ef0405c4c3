-- The answers of `viable_prefix`: the table that was laid reads the form of the side.
use Rattle.std.proofs.Common.{◌≡◌, ℕ, ◌≤◌, List, [], ◌∷◌, Result, Ok, Err, length, arith}
use Rattle.lens.specs.Forms.{Text, Form, empty, one, seq, or, many, exactly}
use Rattle.lens.specs.Views.{View, copy, hide, then, swap, either, each}
use Rattle.rows.specs.Rows.{FormFine, AllBytes, ViewFine, Encodes}
use Rattle.clear.specs.declared.side.Side.{Side}
use Rattle.clear.specs.declared.side.Side.TheVariants.{Source, Look}
use Rattle.clear.specs.Sides.{side_form}
use Rattle.clear.specs.Verdict.{Lays}
use Rattle.viable.specs.Viable.{Ranged}
use Rattle.viable.specs.States.{Reader, ReadsText}
use Rattle.viable.specs.declared.reading.Break.{Break}
use Rattle.views.specs.declared.fitting.Unfit.{Unfit}
use Rattle.views.specs.declared.fitting.Unfit.TheVariants.{Breaks, Small}
use Rattle.views.specs.Room.{room}
use Rattle.views.specs.Fits.{FitSays, FitPost}

-- The ranges of a view go upward and are of bytes, on both sides.
ranged_form : (f : Form) → FormFine f → Ranged f
ranged_form empty h = tt
ranged_form (one a b) h = h
ranged_form (seq f g) h = (ranged_form f h.0, ranged_form g h.1)
ranged_form (or f g) h = (ranged_form f h.0, ranged_form g h.1)
ranged_form (many f) h = ranged_form f h

ranged_text : (v : Text) → AllBytes v → Ranged (exactly v)
ranged_text [] h = tt
ranged_text (x ∷ v) h = ((omega arith, h.0), ranged_text v h.1)

ranged : (side : Side) (v : View) → ViewFine v → Ranged (side_form side v)
ranged Source (copy f) h = ranged_form f h
ranged Source (hide f v d) h = ranged_form f h.0
ranged Source (then k l) h = (ranged Source k h.0, ranged Source l h.1)
ranged Source (swap k l) h = (ranged Source k h.0, ranged Source l h.1)
ranged Source (either k l) h = (ranged Source k h.0, ranged Source l h.1)
ranged Source (each l) h = ranged Source l h
ranged Look (copy f) h = ranged_form f h
ranged Look (hide f v d) h = ranged_text v h.1.0.1
ranged Look (then k l) h = (ranged Look k h.0, ranged Look l h.1)
ranged Look (swap k l) h = (ranged Look l h.1, ranged Look k h.0)
ranged Look (either k l) h = (ranged Look k h.0, ranged Look l h.1)
ranged Look (each l) h = ranged Look l h

reader : {side : Side} {s t : List ℕ} (v : View) → Encodes s v → Lays side s t → Reader t (length s) (side_form side v)
reader {side} v e lays = record { acts = lays.acts v e; stops = lays.stops v e; ranged = ranged side v e.fine }

-- The answers that rest on reading are not small.
abbrev answer : Result (Unit {0}) Break → Result (Unit {0}) Unfit
answer (Ok u) = Ok u
answer (Err b) = Err (Breaks b)

says : {side : Side} {s t : List ℕ} {u : Text} (r : Result (Unit {0}) Break) (v : View) → Encodes s v → Lays side s t → ReadsText t (length s) u r →
    FitSays side s u (answer r)
says {side} (Ok _) v e lays read = (v, e, read.says (side_form side v) (reader v e lays))
says {side} (Err b) v e lays read = (v, e, read.says (side_form side v) (reader v e lays))

large : (r : Result (Unit {0}) Break) → answer r ≡ Err Small → ⊥
large (Ok _) e = cc
large (Err b) e = cc

pub fit_post : {side : Side} {s t : List ℕ} {u : Text} {w : ℕ} (r : Result (Unit {0}) Break) → room s (length u) ≤ w → (v : View) × Encodes s v → Lays side s t →
    ReadsText t (length s) u r → FitPost side s u w (answer r)
fit_post r enough (v, e) lays read =
    record { says = says r v e lays read; small = (λ less. absurd (omega arith), λ is_small. absurd (large r is_small)) }
