-- Views: how a source looks, how a source is made from a look, and how a changed look is put back.
-- Not here: which views are clear (Clear) and what holds of those (Laws).
use Rattle.std.specs.Prelude.{[], ◌++◌}
use Rattle.lens.specs.Forms.{Text, Form, seq, or, many, Matches, exactly}

-- `copy f` shows a text of f as it is. `hide f v d` shows the text v in place of any text of f, and puts d
-- where there was no source. `then` and `swap` show two sources that stand one after the other, swap with
-- the second look first. `either` shows a source of one of two views, `each` any number of sources of one.
pub data View : Type 0 where
  copy : Form → View
  hide : Form → Text → Text → View
  then : View → View → View
  swap : View → View → View
  either : View → View → View
  each : View → View

-- The form of a view's sources.
abbrev pub sources : View → Form
sources (copy f) = f
sources (hide f v d) = f
sources (then k l) = seq (sources k) (sources l)
sources (swap k l) = seq (sources k) (sources l)
sources (either k l) = or (sources k) (sources l)
sources (each l) = many (sources l)

-- The form of a view's looks: swap's parts stand in the other order here.
abbrev pub looks : View → Form
looks (copy f) = f
looks (hide f v d) = exactly v
looks (then k l) = seq (looks k) (looks l)
looks (swap k l) = seq (looks l) (looks k)
looks (either k l) = or (looks k) (looks l)
looks (each l) = many (looks l)

-- `Shows v s u`: the source s looks like u.
pub data Shows : View → Text → Text → Type 0 where
  s_copy : {f : Form} {s : Text} → Matches f s → Shows (copy f) s s
  s_hide : {f : Form} {s v d : Text} → Matches f s → Shows (hide f v d) s v
  s_then : {k l : View} (s t u v : Text) → Shows k s u → Shows l t v → Shows (then k l) (s ++ t) (u ++ v)
  s_swap : {k l : View} (s t u v : Text) → Shows k s u → Shows l t v → Shows (swap k l) (s ++ t) (v ++ u)
  s_left : {k l : View} {s u : Text} → Shows k s u → Shows (either k l) s u
  s_right : {k l : View} {s u : Text} → Shows l s u → Shows (either k l) s u
  s_none : {l : View} → Shows (each l) [] []
  s_more : {l : View} (s t u v : Text) → Shows l s u → Shows (each l) t v → Shows (each l) (s ++ t) (u ++ v)

-- `Makes v u s`: s is the source made from the look u alone.
pub data Makes : View → Text → Text → Type 0 where
  m_copy : {f : Form} {s : Text} → Matches f s → Makes (copy f) s s
  m_hide : {f : Form} {v d : Text} → Makes (hide f v d) v d
  m_then : {k l : View} (u v s t : Text) → Makes k u s → Makes l v t → Makes (then k l) (u ++ v) (s ++ t)
  m_swap : {k l : View} (u v s t : Text) → Makes k u s → Makes l v t → Makes (swap k l) (v ++ u) (s ++ t)
  m_left : {k l : View} {u s : Text} → Makes k u s → Makes (either k l) u s
  m_right : {k l : View} {u s : Text} → Makes l u s → Makes (either k l) u s
  m_none : {l : View} → Makes (each l) [] []
  m_more : {l : View} (u v s t : Text) → Makes l u s → Makes (each l) v t → Makes (each l) (u ++ v) (s ++ t)

-- `Puts v u s x`: the look u put back into the source s gives the source x. Under `either` a look of the
-- other view than the source's is made anew. Under `each` parts go together in order: parts that the look
-- has no more fall away, and parts that are new in it are made.
pub data Puts : View → Text → Text → Text → Type 0 where
  p_copy : {f : Form} {u s : Text} → Matches f u → Matches f s → Puts (copy f) u s u
  p_hide : {f : Form} {v d s : Text} → Matches f s → Puts (hide f v d) v s s
  p_then : {k l : View} (u v s t x y : Text) → Puts k u s x → Puts l v t y → Puts (then k l) (u ++ v) (s ++ t) (x ++ y)
  p_swap : {k l : View} (u v s t x y : Text) → Puts k u s x → Puts l v t y → Puts (swap k l) (v ++ u) (s ++ t) (x ++ y)
  p_left : {k l : View} {u s x : Text} → Puts k u s x → Puts (either k l) u s x
  p_right : {k l : View} {u s x : Text} → Puts l u s x → Puts (either k l) u s x
  p_to_left : {k l : View} {u s x : Text} → Matches (sources l) s → Makes k u x → Puts (either k l) u s x
  p_to_right : {k l : View} {u s x : Text} → Matches (sources k) s → Makes l u x → Puts (either k l) u s x
  p_none : {l : View} {s : Text} → Matches (many (sources l)) s → Puts (each l) [] s []
  p_both : {l : View} (u v s t x y : Text) → Puts l u s x → Puts (each l) v t y → Puts (each l) (u ++ v) (s ++ t) (x ++ y)
  p_new : {l : View} (u v x y : Text) → Makes l u x → Puts (each l) v [] y → Puts (each l) (u ++ v) [] (x ++ y)
