-- The laws of a lens. They ask little of a view: only that the default of hide is a source (a part of Clear).
-- Not here: that each of show, make and put gives one text (Works).
use Rattle.lens.specs.Forms.{Text, is_none}
use Rattle.lens.specs.Views.{View, Shows, s_copy, s_hide, s_then, s_swap, s_left, s_right, s_none, s_more, Makes, m_copy, m_hide, m_then, m_swap, m_left, m_right, m_none, m_more, Puts, p_copy, p_hide, p_then, p_swap, p_left, p_right, p_to_left, p_to_right, p_none, p_both, p_new}
use Rattle.lens.specs.Clear.{Clear}
use Rattle.lens.specs.Laws.{ClearLawful}

-- A source made from a look shows that look.
pub make_shows : {l : View} {u s : Text} → Clear l → Makes l u s → Shows l s u
make_shows c (m_copy a) = s_copy a
make_shows c m_hide = s_hide c
make_shows c (m_then u v s t a b) = s_then s t u v (make_shows c.0 a) (make_shows c.1 b)
make_shows c (m_swap u v s t a b) = s_swap s t u v (make_shows c.0 a) (make_shows c.1 b)
make_shows c (m_left a) = s_left (make_shows c.0 a)
make_shows c (m_right a) = s_right (make_shows c.1 a)
make_shows c m_none = s_none
make_shows c (m_more u v s t a b) = s_more s t u v (make_shows c.0 a) (make_shows c b)

-- What is put back is what one then sees.
pub put_shows : {l : View} {u s x : Text} → Clear l → Puts l u s x → Shows l x u
put_shows c (p_copy a b) = s_copy a
put_shows c (p_hide a) = s_hide a
put_shows c (p_then u v s t x y a b) = s_then x y u v (put_shows c.0 a) (put_shows c.1 b)
put_shows c (p_swap u v s t x y a b) = s_swap x y u v (put_shows c.0 a) (put_shows c.1 b)
put_shows c (p_left a) = s_left (put_shows c.0 a)
put_shows c (p_right a) = s_right (put_shows c.1 a)
put_shows c (p_to_left a b) = s_left (make_shows c.0 b)
put_shows c (p_to_right a b) = s_right (make_shows c.1 b)
put_shows c (p_none a) = s_none
put_shows c (p_both u v s t x y a b) = s_more x y u v (put_shows c.0 a) (put_shows c b)
put_shows c (p_new u v x y a b) = s_more x y u v (make_shows c.0 a) (put_shows c b)

-- Putting back what one sees changes nothing.
pub shown_puts : {l : View} {s u : Text} → Shows l s u → Puts l u s s
shown_puts (s_copy a) = p_copy a a
shown_puts (s_hide a) = p_hide a
shown_puts (s_then s t u v a b) = p_then u v s t s t (shown_puts a) (shown_puts b)
shown_puts (s_swap s t u v a b) = p_swap u v s t s t (shown_puts a) (shown_puts b)
shown_puts (s_left a) = p_left (shown_puts a)
shown_puts (s_right a) = p_right (shown_puts a)
shown_puts s_none = p_none is_none
shown_puts (s_more s t u v a b) = p_both u v s t s t (shown_puts a) (shown_puts b)

pub clear_lawful : ClearLawful
clear_lawful l c = record {
  put_shows = λ u s x a. put_shows c a;
  shown_puts = λ s u a. shown_puts a;
  make_shows = λ u s a. make_shows c a;
}
