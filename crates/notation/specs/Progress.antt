-- How far a parser has come: every part that it reads leaves less of the text, and never shortens the row.
use Rattle.std.specs.Prelude.{ℕ, ◌+◌, ◌-◌, ◌<◌, ◌≤◌, Bool, cond, length}
use Rattle.notation.specs.declared.parser.Parser.{Parser}
use Rattle.notation.specs.Tokens.{width}

-- How much of the text is left: the bytes behind the token ahead, and that token.
abbrev pub left : Parser → ℕ
left p = (length p.text.now - p.ahead.end) + width p.ahead.token

-- Something may have been read.
pub record Goes (p q : Parser) : Type 0 where
  pub fewer : left q ≤ left p
  pub grows : p.row.total ≤ q.row.total

-- Something was read.
pub record Reads (p q : Parser) : Type 0 where
  pub fewer : left q < left p
  pub grows : p.row.total ≤ q.row.total

-- The token ahead was read, and perhaps more.
pub record Steps (p q : Parser) : Type 0 where
  pub fewer : left q + width p.ahead.token ≤ left p
  pub grows : p.row.total ≤ q.row.total

-- Something was read if `more` says so.
pub record Signs (p q : Parser) (more : Bool) : Type 0 where
  pub fewer : left q + cond more 1 0 ≤ left p
  pub grows : p.row.total ≤ q.row.total
