-- Whether the empty text is of a form is told by `nullable`.
use mathlib.Core.Path.{◌≡◌, refl}
use mathlib.Core.Bool.{Bool, true, false, cond}
use mathlib.Core.List.{[]}
use borrow.Author.Tests.{clash}
use Rattle.lens.specs.Forms.{Text, Form, empty, one, seq, or, many, Matches, is_empty, is_one, is_seq, is_left, is_right, is_none, is_more}
use Rattle.lens.proofs.Texts.{cons_not_nil, append_nil_left}
use Rattle.automata.specs.Automaton.{nullable}

pub nullable_sound : (f : Form) → nullable f ≡ true → Matches f []
nullable_sound empty e = is_empty
nullable_sound (one a b) e = absurd (clash e)
nullable_sound (seq f g) e = on_both (nullable f) refl (nullable_sound f) (nullable_sound g) e
  where
    on_both : (x : Bool) → nullable f ≡ x → (nullable f ≡ true → Matches f []) → (nullable g ≡ true → Matches g []) →
        cond x (nullable g) false ≡ true → Matches (seq f g) []
    on_both true i a b e = is_seq [] [] (a i) (b e)
    on_both false i a b e = absurd (clash e)
nullable_sound (or f g) e = on_either (nullable f) refl (nullable_sound f) (nullable_sound g) e
  where
    on_either : (x : Bool) → nullable f ≡ x → (nullable f ≡ true → Matches f []) → (nullable g ≡ true → Matches g []) →
        cond x true (nullable g) ≡ true → Matches (or f g) []
    on_either true i a b e = is_left (a i)
    on_either false i a b e = is_right (b e)
nullable_sound (many f) e = is_none

true_or : (x : Bool) → cond x true true ≡ true
true_or true = refl
true_or false = refl

-- over any text that is empty
null_of : {f : Form} {u : Text} → Matches f u → u ≡ [] → nullable f ≡ true
null_of is_empty e = refl
null_of (is_one l h) e = cons_not_nil e
null_of (is_seq u v a b) e = let none = append_nil_left u v e in rw (null_of a none) (null_of b (rw none at e))
null_of (is_left a) e = rw (null_of a e) refl
null_of {f = or f g} (is_right b) e = rw (null_of b e) (true_or (nullable f))
null_of is_none e = refl
null_of (is_more u v a b) e = refl

pub nullable_complete : (f : Form) → Matches f [] → nullable f ≡ true
nullable_complete f m = null_of m refl
