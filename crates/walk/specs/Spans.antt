-- Parts of texts.
use Rattle.std.specs.Prelude.{ℕ, ◌-◌, length, take, drop}
use Rattle.lens.specs.Forms.{Text}
use Rattle.walk.specs.declared.span.Span.{Span}

-- The part of a text from i to e.
abbrev pub slice : Text → ℕ → ℕ → Text
slice text i e = take (e - i) (drop i text)

-- All of a text.
abbrev pub all_of : Text → Span
all_of text = record { at = 0; end = length text }

-- A part, cut in two at m.
abbrev pub before : Span → ℕ → Span
before part m = record { at = part.at; end = m }

abbrev pub after : Span → ℕ → Span
after part m = record { at = m; end = part.end }
