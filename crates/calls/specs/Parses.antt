-- What `views_parse` promises: the row that it hands out says a view, and otherwise nothing of the lent bytes is changed.
use Rattle.std.specs.Prelude.{◌≡◌, ℕ, ◌<◌, List, Result, Ok, Err, length, take, drop}
use Rattle.lens.specs.Views.{View}
use Rattle.rows.specs.Rows.{Encodes}
use Rattle.calls.specs.declared.parsing.Unparsed.{Unparsed}
use Rattle.calls.specs.declared.parsing.Unparsed.TheVariants.{NoView, Full}

-- The first n bytes of o' say a view, and the others are as in o.
pub record RowOf (o o' : List ℕ) (n : ℕ) : Type 0 where
  pub view : View
  pub encodes : Encodes (take n o') view
  pub rest : drop n o' ≡ drop n o

-- What comes of a text: a row of so many bytes, or why there is none.
abbrev pub Parsed : Type 0
Parsed = Result ℕ Unparsed

-- What each answer says of the bytes lent for the row, before and after. A row is never longer than 1,024 bytes.
abbrev pub ParsedSays : List ℕ → List ℕ → Parsed → Type 0
ParsedSays o o' (Ok n) = RowOf o o' n
ParsedSays o o' (Err NoView) = o' ≡ o
ParsedSays o o' (Err Full) = (o' ≡ o) × (length o < 1024)

abbrev pub parsed_number : Parsed → ℕ
parsed_number (Ok n) = 0
parsed_number (Err NoView) = 1
parsed_number (Err Full) = 2

abbrev pub row_length : Parsed → ℕ → ℕ
row_length (Ok n) was = n
row_length (Err why) was = was

pub record ParseAnswers (o o' : List ℕ) (n n' r : ℕ) : Type 0 where
  pub answer : Parsed
  pub number : r ≡ parsed_number answer
  pub written : n' ≡ row_length answer n
  pub says : ParsedSays o o' answer
