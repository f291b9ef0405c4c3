-- Two worked views: both are clear, and a text is shown, made and put back by each.
-- Not here: the derivations (proofs/Cases).
use Rattle.std.specs.Prelude.{◌≡◌, [], ◌++◌, codes}
use Rattle.lens.specs.Forms.{Text, Form, one, seq, many, Matches}
use Rattle.lens.specs.Views.{View, copy, hide, then, Shows, Makes, Puts}
use Rattle.lens.specs.Clear.{Clear}

-- Digits are shown, and the letter behind them is hidden.
abbrev pub digits : Form
digits = many (one 48 57)

abbrev pub number : View
number = then (copy digits) (hide (one 97 122) [] (codes "x"))

pub record LetterHidden : Type 0 where
  pub clear : Clear number
  pub shown : Shows number (codes "12a") (codes "12")
  pub made : Makes number (codes "1") (codes "1x")
  pub put_back : Puts number (codes "1") (codes "12a") (codes "1a")

-- A line of a catalogue: number, lender and remark, with a mark (;) between them. The lender is hidden
-- together with its mark, and the remark may hold marks of its own.
abbrev pub mark : Form
mark = one 59 59

abbrev pub letters : Form
letters = many (one 65 122)

abbrev pub remark : Form
remark = many (one 32 126)

abbrev pub line : View
line = then (copy digits) (then (copy mark) (then (hide (seq letters mark) [] (codes ";")) (copy remark)))

-- A line of the catalogue, and how it looks on the page.
abbrev pub entry : Text → Text → Text → Text
entry number lender said = number ++ (codes ";" ++ (lender ++ codes ";" ++ said))

abbrev pub page : Text → Text → Text
page number said = number ++ (codes ";" ++ said)

-- The page leaves the lender out, a new line has an empty one, and a line whose number and remark are
-- changed on the page keeps its own. The last three: a line whose remark holds a mark, before and after,
-- and that there is no other line after.
pub record LenderStays : Type 0 where
  pub clear : Clear line
  pub shown : (n a r : Text) → Matches digits n → Matches letters a → Matches remark r → Shows line (entry n a r) (page n r)
  pub made : (n r : Text) → Matches digits n → Matches remark r → Makes line (page n r) (entry n [] r)
  pub put_back : (m n a q r : Text) → Matches digits m → Matches digits n → Matches letters a → Matches remark q → Matches remark r → Puts line (page m q) (entry n a r) (entry m a q)
  pub before : Shows line (codes "7;Ann;a;b") (codes "7;a;b")
  pub after : Puts line (codes "7;c;d") (codes "7;Ann;a;b") (codes "7;Ann;c;d")
  pub only_after : (x : Text) → Puts line (codes "7;c;d") (codes "7;Ann;a;b") x → x ≡ codes "7;Ann;c;d"
