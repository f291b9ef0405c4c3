-- The work words that the calls on texts want.
use Rattle.std.specs.Prelude.{ℕ, ◌+◌, ◌*◌, ◌/◌, min, List, length}

-- What a call on a view of m bytes and texts of n bytes in all wants: what judging wants, 64, and an eighth of a word for
-- each byte of the view and each of the texts.
abbrev pub room_for : ℕ → ℕ → ℕ
room_for m n = 4096 + min 1025 m * min 1025 m + (64 + ((1 + min 1025 m) * (1 + n)) / 8)

abbrev pub room : List ℕ → ℕ → ℕ
room s n = room_for (length s) n

-- What one cut text takes of that.
abbrev pub cut_words : ℕ → ℕ → ℕ
cut_words m n = 4 * m + 2 * (m / 32 + 1) + 2 * ((n * m) / 32 + 1)
