-- Where tokens stand in a text of n bytes: reading one always gets on, and stays within the text.
use Rattle.std.specs.Prelude.{◌≡◌, ℕ, ◌+◌, ◌-◌, ◌<◌, ◌≤◌}
use Rattle.notation.specs.declared.lexer.Token.{Token}
use Rattle.notation.specs.declared.lexer.Token.TheVariants.{Copy, Hide, As, New, Swap, Each, Any, Not, Byte, Text, Open, Close, Bar, Star, Plus, Question, Dots, End}
use Rattle.notation.specs.declared.lexer.Lexeme.{Lexeme}
use Rattle.notation.specs.declared.lexer.One.{One}

-- Every token takes a byte at least, but the end of the text.
abbrev pub width : Token → ℕ
width Copy = 1
width Hide = 1
width As = 1
width New = 1
width Swap = 1
width Each = 1
width Any = 1
width Not = 1
width (Byte b) = 1
width Text = 1
width Open = 1
width Close = 1
width Bar = 1
width Star = 1
width Plus = 1
width Question = 1
width Dots = 1
width End = 0

-- A token that begins at `start`, where the text has not ended.
pub record Read (n start : ℕ) (l : Lexeme) : Type 0 where
  pub begins : l.start ≡ start
  pub ends : start < l.end
  pub within : l.end ≤ n

-- The token that comes next from `at` on, or the end of the text.
pub record Follows (n at : ℕ) (l : Lexeme) : Type 0 where
  pub begins : at ≤ l.start
  pub ends : l.start ≤ l.end
  pub fewer : (n - l.end) + width l.token ≤ n - at

-- A byte inside quotes, whose notation begins at `at`.
pub record OneByte (n at : ℕ) (one : One) : Type 0 where
  pub ends : at < one.end
  pub within : one.end ≤ n
