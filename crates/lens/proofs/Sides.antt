-- Of which form a text is that is shown, made or put back: the sources' or the looks'.
-- Not here: that there is such a text for each source or look (Works).
use Rattle.lens.specs.Forms.{Text, Matches, is_seq, is_left, is_right, is_none, is_more}
use Rattle.lens.specs.Views.{View, sources, looks, Shows, s_copy, s_hide, s_then, s_swap, s_left, s_right, s_none, s_more, Makes, Puts, p_copy, p_hide, p_then, p_swap, p_left, p_right, p_to_left, p_to_right, p_none, p_both, p_new}
use Rattle.lens.specs.Clear.{Clear}
use Rattle.lens.proofs.Inversions.{exactly_matches}
use Rattle.lens.proofs.Lawful.{make_shows, put_shows}

-- A source that is shown is of the sources' form, and what it looks like of the looks'.
pub shows_source : {l : View} {s u : Text} → Shows l s u → Matches (sources l) s
shows_source (s_copy a) = a
shows_source (s_hide a) = a
shows_source (s_then s t u v a b) = is_seq s t (shows_source a) (shows_source b)
shows_source (s_swap s t u v a b) = is_seq s t (shows_source a) (shows_source b)
shows_source (s_left a) = is_left (shows_source a)
shows_source (s_right a) = is_right (shows_source a)
shows_source s_none = is_none
shows_source (s_more s t u v a b) = is_more s t (shows_source a) (shows_source b)

pub shows_look : {l : View} {s u : Text} → Shows l s u → Matches (looks l) u
shows_look (s_copy a) = a
shows_look (s_hide {v = v} a) = exactly_matches v
shows_look (s_then s t u v a b) = is_seq u v (shows_look a) (shows_look b)
shows_look (s_swap s t u v a b) = is_seq v u (shows_look b) (shows_look a)
shows_look (s_left a) = is_left (shows_look a)
shows_look (s_right a) = is_right (shows_look a)
shows_look s_none = is_none
shows_look (s_more s t u v a b) = is_more u v (shows_look a) (shows_look b)

-- A text into which a look is put back is a source.
pub puts_source : {l : View} {u s x : Text} → Puts l u s x → Matches (sources l) s
puts_source (p_copy a b) = b
puts_source (p_hide a) = a
puts_source (p_then u v s t x y a b) = is_seq s t (puts_source a) (puts_source b)
puts_source (p_swap u v s t x y a b) = is_seq s t (puts_source a) (puts_source b)
puts_source (p_left a) = is_left (puts_source a)
puts_source (p_right a) = is_right (puts_source a)
puts_source (p_to_left a b) = is_right a
puts_source (p_to_right a b) = is_left a
puts_source (p_none a) = a
puts_source (p_both u v s t x y a b) = is_more s t (puts_source a) (puts_source b)
puts_source (p_new u v x y a b) = is_none

-- What is made or put back is of the looks' form, since it is what one then sees.
pub makes_look : {l : View} {u s : Text} → Clear l → Makes l u s → Matches (looks l) u
makes_look c a = shows_look (make_shows c a)

pub puts_look : {l : View} {u s x : Text} → Clear l → Puts l u s x → Matches (looks l) u
puts_look c a = shows_look (put_shows c a)
