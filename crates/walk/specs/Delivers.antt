-- What it means that a text was delivered into lent bytes.
use Rattle.std.specs.Prelude.{◌≡◌, ℕ, ◌<◌, List, length, take, drop, Some, None, Option}
use Rattle.lens.specs.Forms.{Text}

-- A text of which R holds stands first in o', n bytes long, and the other bytes are as in o.
pub record Delivered (R : Text → Type 0) (o o' : List ℕ) (n : ℕ) : Type 0 where
  pub text : Text
  pub holds : R text
  pub long : n ≡ length text
  pub front : take n o' ≡ text
  pub rest : drop n o' ≡ drop n o

-- Such a text is longer than o, which is as it was.
pub record Overflows (R : Text → Type 0) (o o' : List ℕ) : Type 0 where
  pub text : Text
  pub holds : R text
  pub longer : length o < length text
  pub kept : o' ≡ o

abbrev pub Delivers : (Text → Type 0) → List ℕ → List ℕ → Option ℕ → Type 0
Delivers R o o' (Some n) = Delivered R o o' n
Delivers R o o' None = Overflows R o o'
