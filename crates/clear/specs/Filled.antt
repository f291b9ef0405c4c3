-- What it means that a part of a row has been laid into the table of an automaton. States are places of the row.
use Rattle.std.specs.Prelude.{◌≡◌, ℕ, ◌+◌, ◌*◌, ◌<◌, ◌≤◌, List, ◌++◌, length, drop, Decides, Option, MatchOption}
use Rattle.lens.specs.Forms.{Text, Form, seq, or, many, exactly, Matches}
use Rattle.lens.specs.Clear.{CutOnce, Apart, PartsOnce}
use Rattle.lens.specs.Views.{View}
use Rattle.rows.specs.Rows.{form_row, text_row, view_row, FormFine, TextFine, ViewFine}
use Rattle.rows.proofs.Tags.{hidden_row, HiddenFine}
use Rattle.automata.specs.Automaton.{Acts}
use Rattle.pairs.specs.Table.{shape_at, Bounded}
use Rattle.pairs.specs.declared.answer.Answer.{Answer}
use Rattle.clear.specs.declared.side.Side.{Side}
use Rattle.clear.specs.Sides.{side_form, ClearOn}

-- A table is ready for the row s: there are four words for each of its bytes, and every state goes on among the row's places
-- and its end, as what is laid does, which goes on at `next`.
pub record Ready (s : List ℕ) (next : ℕ) (t : List ℕ) : Type 0 where
  pub table_long : 4 * length s ≤ length t
  pub next_inside : next ≤ length s
  pub bounded : Bounded (length s + 1) t

-- What is found of a view: where it ends, and whether it is clear on the side that was laid.
abbrev pub Finding : Type 0
Finding = ℕ × Answer

-- The thing x stands in the row s from `at` to e.
pub record Laid {A : Type 0} (row : A → List ℕ) (fine : A → Type 0) (s : List ℕ) (at e : ℕ) (x : A) : Type 0 where
  pub sound : fine x
  pub less : at < e
  pub within : e ≤ length s
  pub laid : drop at s ≡ row x ++ drop e s

abbrev pub Within : ℕ → ℕ → ℕ → Type 0
Within at e p = (at ≤ p) × (p < e)

-- The states from `at` to e act as the form f, from the state `from` on, and go on at `next`; all other states
-- are as they were.
pub record Filled (t t' : List ℕ) (at e from next : ℕ) (f : Form) : Type 0 where
  pub acts : Acts (shape_at t') (Within at e) f from next
  pub kept : (p : ℕ) → (Within at e p → ⊥) → shape_at t' p ≡ shape_at t p

-- A form or a text that stands at `at` is laid into the table, and it is said where it ends.
pub record FormFills (s : List ℕ) (at next : ℕ) (t t' : List ℕ) (r : Option ℕ) : Type 0 where
  pub fills : (f : Form) (e : ℕ) → Laid form_row FormFine s at e f → MatchOption r ⊥ (λ end. (end ≡ e) × Filled t t' at e at next f)

pub record TextFills (s : List ℕ) (at next : ℕ) (t t' : List ℕ) (r : Option ℕ) : Type 0 where
  pub fills : (v : Text) (e : ℕ) → Laid text_row TextFine s at e v → MatchOption r ⊥ (λ end. (end ≡ e) × Filled t t' at e at next (exactly v))

-- One side of a view is laid into the table, and it is found whether the conditions C hold.
pub record Finds (t t' : List ℕ) (at e next : ℕ) (f : Form) (C : Type 0) (q : Finding) : Type 0 where
  pub ends : q.0 ≡ e
  pub filled : Filled t t' at e at next f
  pub decides : Decides q.1.yes C

-- What is found of a thing x at `at`, whose texts on the side are of the form f: for every x that stands there and
-- every place `next` outside of it.
abbrev pub Found : {A : Type 0} (row : A → List ℕ) (fine : A → Type 0) (form : A → Form) (C : A → Type 0) → List ℕ → ℕ → ℕ → ℕ → List ℕ → List ℕ → Option Finding → Type 0
Found {A} row fine form C s at behind next t t' r =
    (x : A) (e : ℕ) → Laid row fine s behind e x → (Within at e next → ⊥) → MatchOption r ⊥ (Finds t t' at e next (form x) (C x))

pub record ViewFills (side : Side) (s : List ℕ) (at next : ℕ) (t t' : List ℕ) (r : Option Finding) : Type 0 where
  pub fills : Found view_row ViewFine (side_form side) (ClearOn side) s at at next t t' r

-- The same of what stands behind a node at `at`: a form under copy, and a form and two texts under hide, as its
-- sources and as its looks stand.
pub record CopyFills (s : List ℕ) (at next : ℕ) (t t' : List ℕ) (r : Option Finding) : Type 0 where
  pub fills : Found form_row FormFine (λ f. f) (λ f. Unit {0}) s at (at + 1) next t t' r

pub record HiddenFills (s : List ℕ) (at next : ℕ) (t t' : List ℕ) (r : Option Finding) : Type 0 where
  pub fills : Found hidden_row HiddenFine (λ p. p.0) (λ p. Matches p.0 p.1.1) s at (at + 1) next t t' r

pub record LiteralFills (s : List ℕ) (at next : ℕ) (t t' : List ℕ) (r : Option Finding) : Type 0 where
  pub fills : Found hidden_row HiddenFine (λ p. exactly p.1.0) (λ p. Unit {0}) s at (at + 1) next t t' r

-- Two views behind a node, the second from m on: one after the other, in the other order, or one or the other.
abbrev pub TwoViews : Side → (Form → Form → Form) → (Form → Form → Type 0) → List ℕ → ℕ → ℕ → ℕ → List ℕ → List ℕ → Option Finding → Type 0
TwoViews side join holds s at m next t t' r =
    (k l : View) (e : ℕ) → Laid view_row ViewFine s (at + 1) m k → Laid view_row ViewFine s m e l → (Within at e next → ⊥)
    → MatchOption r ⊥ (Finds t t' at e next (join (side_form side k) (side_form side l)) (ClearOn side k × ClearOn side l × holds (side_form side k) (side_form side l)))

pub record SeriesFills (side : Side) (s : List ℕ) (at m next : ℕ) (t t' : List ℕ) (r : Option Finding) : Type 0 where
  pub fills : TwoViews side seq CutOnce s at m next t t' r

pub record TurnedFills (side : Side) (s : List ℕ) (at m next : ℕ) (t t' : List ℕ) (r : Option Finding) : Type 0 where
  pub fills : TwoViews side (λ f g. seq g f) (λ f g. CutOnce g f) s at m next t t' r

pub record ChoiceFills (side : Side) (s : List ℕ) (at m next : ℕ) (t t' : List ℕ) (r : Option Finding) : Type 0 where
  pub fills : TwoViews side or Apart s at m next t t' r

-- Any number of parts of the view behind a node.
pub record PartsFills (side : Side) (s : List ℕ) (at next : ℕ) (t t' : List ℕ) (r : Option Finding) : Type 0 where
  pub fills : Found view_row ViewFine (λ l. many (side_form side l)) (λ l. ClearOn side l × PartsOnce (side_form side l)) s at (at + 1) next t t' r
