-- What comes of two calls in a row with the same view.
use Rattle.std.specs.Prelude.{◌≡◌, List, Ok, ℕ, ◌+◌, ◌≤◌, length}
use Rattle.lens.specs.Forms.{Text}
use Rattle.lens.specs.Views.{View, Shows, Puts}
use Rattle.lens.specs.Clear.{Clear}
use Rattle.rows.specs.Rows.{Encodes}
use Rattle.views.specs.Room.{room}
use Rattle.views.specs.Made.{Made, Written}

-- The source a was shown, and its look put back as it is, with `page` bytes lent for the look. Whatever is written is the
-- source, a refusal writes nothing, and with enough room all of the source is written.
pub record Unchanged (s : List ℕ) (a : Text) (page : ℕ) (o o' : List ℕ) (w : ℕ) (r : Made) : Type 0 where
  pub same : (n : ℕ) → r ≡ Ok n → Written a o o' n
  pub refused : ((n : ℕ) → r ≡ Ok n → ⊥) → o' ≡ o
  pub done : (v : View) (u : Text) → Encodes s v → Clear v → Shows v a u →
      length u ≤ page → length a ≤ length o → room s (length a + length u) ≤ w → r ≡ Ok (length a)

-- The look b was put back into the source a, with `fresh` bytes lent for the new source, and that was shown. Whatever is
-- written is the look, a refusal writes nothing, and with enough room all of the look is written.
pub record Seen (s : List ℕ) (a b : Text) (fresh : ℕ) (o o' : List ℕ) (w : ℕ) (r : Made) : Type 0 where
  pub same : (n : ℕ) → r ≡ Ok n → Written b o o' n
  pub refused : ((n : ℕ) → r ≡ Ok n → ⊥) → o' ≡ o
  pub done : (v : View) (x : Text) → Encodes s v → Clear v → Puts v b a x →
      length x ≤ fresh → length b ≤ length o → room s (length a + length b) ≤ w → room s (length x) ≤ w → r ≡ Ok (length b)
