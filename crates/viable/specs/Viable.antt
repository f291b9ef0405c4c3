-- Viable prefixes of a form, and what is said of a text that is read byte by byte. Not here: how it is read (States).
use Rattle.std.specs.Prelude.{◌≡◌, ℕ, ◌<◌, ◌≤◌, true, ◌⊎◌, Result, Ok, Err, [], ◌∷◌, ◌++◌, length, take, Decides}
use Rattle.lens.specs.Forms.{Text, Form, empty, one, seq, or, many, Matches}
use Rattle.viable.specs.declared.bytes.ByteSet.{ByteSet}
use Rattle.viable.specs.Bytes.{has_byte}
use Rattle.viable.specs.declared.reading.Break.{Break}

-- Some text of the form begins with u.
abbrev pub Viable : Form → Text → Type 0
Viable f u = (v : Text) × Matches f (u ++ v)

-- Every range goes upward and is one of bytes. So the form, and each part of it, has a text, and its texts are bytes.
abbrev pub Ranged : Form → Type 0
Ranged empty = Unit {0}
Ranged (one a b) = (a ≤ b) × (b < 256)
Ranged (seq f g) = Ranged f × Ranged g
Ranged (or f g) = Ranged f × Ranged g
Ranged (many f) = Ranged f

-- The bytes of s are those with which u, and one byte more, is viable.
abbrev pub Next : Form → Text → ByteSet → Type 0
Next f u s = (x : ℕ) → x < 256 → Decides (has_byte s x) (Viable f (u ++ x ∷ []))

-- The text u isn't of the form f. Its front up to b is the longest that is viable, the set has the bytes that could stand
-- next there, and it is said whether the text could end there: one of the two is so.
pub record BreaksAt (f : Form) (u : Text) (b : Break) : Type 0 where
  pub unfit : Matches f u → ⊥
  pub within : b.at ≤ length u
  pub viable : Viable f (take b.at u)
  pub longest : (k : ℕ) → b.at < k → k ≤ length u → Viable f (take k u) → ⊥
  pub next : Next f (take b.at u) b.next
  pub ends : Decides b.ends (Matches f (take b.at u))
  pub goes_on : (b.ends ≡ true) ⊎ ((x : ℕ) × (x < 256) × (has_byte b.next x ≡ true))

abbrev pub Says : Form → Text → Result (Unit {0}) Break → Type 0
Says f u (Ok _) = Matches f u
Says f u (Err b) = BreaksAt f u b
