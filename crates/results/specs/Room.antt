-- The memory of a program: 16 MiB for everything that it holds while a call runs.
use Rattle.std.specs.Prelude.{◌≡◌, ℕ, ◌+◌, ◌*◌, ◌<◌}
use Rattle.views.specs.Room.{room_for}

-- All of it, in bytes.
abbrev pub limit : ℕ
limit = 16777216

-- What a call on a row of n bytes and texts of t bytes needs beside its result: these bytes, and four for each work word.
abbrev pub need : ℕ → ℕ → ℕ
need n t = n + t + 4 * room_for n t

-- What is lent to such a call: all the work words that it wants, and for the result every byte that is left.
pub record Lends (n t words out : ℕ) : Type 0 where
  pub wanted : words ≡ room_for n t
  pub all : need n t + out ≡ limit

-- Nothing is lent, since it wouldn't do.
pub record Lacks (n t : ℕ) : Type 0 where
  pub more : limit < need n t
