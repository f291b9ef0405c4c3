-- A clear view works: show, make and put each give one text, of the form that it should be.
-- Not here: the laws (Lawful), and of which form the texts are that are shown, made and put (Sides).
use mathlib.Core.Path.{◌≡◌, refl, sym, ap₂}
use mathlib.Core.List.{[], ◌++◌}
use Rattle.lens.specs.Forms.{Text, Matches, is_none, many}
use Rattle.lens.specs.Views.{View, copy, hide, then, swap, either, each, sources, looks, Shows, s_copy, s_hide, s_then, s_swap, s_left, s_right, s_none, s_more, Makes, m_copy, m_hide, m_then, m_swap, m_left, m_right, m_none, m_more, Puts, p_copy, p_hide, p_then, p_swap, p_left, p_right, p_to_left, p_to_right, p_none, p_both, p_new}
use Rattle.lens.specs.Clear.{Clear}
use Rattle.lens.specs.Laws.{ClearWorks}
use Rattle.lens.proofs.Inversions.{on_seq, on_or, many_fold, on_exactly, never, not_empty}
use Rattle.lens.proofs.Lawful.{make_shows, put_shows}
use Rattle.lens.proofs.Sides.{shows_source, shows_look, makes_look, puts_look, puts_source}

-- Every source looks like something.
abbrev Shown : View → Text → Type 0
Shown l s = (u : Text) × Shows l s u

shown : (l : View) {s : Text} → Matches (sources l) s → Shown l s
shown (copy f) m = (_, s_copy m)
shown (hide f v d) m = (v, s_hide m)
shown (then k l) m = on_seq (Shown (then k l)) m (λ s t a b.
    let (u, p) = shown k a in let (v, q) = shown l b in (u ++ v, s_then s t u v p q))
shown (swap k l) m = on_seq (Shown (swap k l)) m (λ s t a b.
    let (u, p) = shown k a in let (v, q) = shown l b in (v ++ u, s_swap s t u v p q))
shown (either k l) m = on_or (Shown (either k l)) m
    (λ a. let (u, p) = shown k a in (u, s_left p))
    (λ b. let (u, p) = shown l b in (u, s_right p))
shown (each l) m = many_fold (Shown (each l)) m ([], s_none) (λ s t a b rest.
    let (u, p) = shown l a in let (v, q) = rest in (u ++ v, s_more s t u v p q))

-- Of every look a source can be made.
abbrev Made : View → Text → Type 0
Made l u = (s : Text) × Makes l u s

made : (l : View) {u : Text} → Matches (looks l) u → Made l u
made (copy f) m = (_, m_copy m)
made (hide f v d) m = on_exactly v (Made (hide f v d)) m (d, m_hide)
made (then k l) m = on_seq (Made (then k l)) m (λ u v a b.
    let (s, p) = made k a in let (t, q) = made l b in (s ++ t, m_then u v s t p q))
made (swap k l) m = on_seq (Made (swap k l)) m (λ v u b a.
    let (s, p) = made k a in let (t, q) = made l b in (s ++ t, m_swap u v s t p q))
made (either k l) m = on_or (Made (either k l)) m
    (λ a. let (s, p) = made k a in (s, m_left p))
    (λ b. let (s, p) = made l b in (s, m_right p))
made (each l) m = many_fold (Made (each l)) m ([], m_none) (λ u v a b rest.
    let (s, p) = made l a in let (t, q) = rest in (s ++ t, m_more u v s t p q))

-- Every look can be put back into every source.
abbrev Put : View → Text → Text → Type 0
Put l u s = (x : Text) × Puts l u s x

put : (l : View) {u s : Text} → Matches (looks l) u → Matches (sources l) s → Put l u s
put (copy f) m n = (_, p_copy m n)
put (hide f v d) {s = s} m n = on_exactly v (λ u. Put (hide f v d) u s) m (s, p_hide n)
put (then k l) {s = s} m n =
    on_seq (λ u. Put (then k l) u s) m (λ u v a b.
    on_seq (Put (then k l) (u ++ v)) n (λ s t a' b'.
    let (x, p) = put k a a' in let (y, q) = put l b b' in (x ++ y, p_then u v s t x y p q)))
put (swap k l) {s = s} m n =
    on_seq (λ u. Put (swap k l) u s) m (λ v u b a.
    on_seq (Put (swap k l) (v ++ u)) n (λ s t a' b'.
    let (x, p) = put k a a' in let (y, q) = put l b b' in (x ++ y, p_swap u v s t x y p q)))
put (either k l) {u = u} {s = s} m n =
    on_or (λ u. Put (either k l) u s) m
    (λ a. on_or (Put (either k l) u) n (λ b. let (x, p) = put k a b in (x, p_left p)) (λ b. let (x, p) = made k a in (x, p_to_left b p)))
    (λ a. on_or (Put (either k l) u) n (λ b. let (x, p) = made l a in (x, p_to_right b p)) (λ b. let (x, p) = put l a b in (x, p_right p)))
put (each l) {s = s} m n = many_fold (λ u. (s : Text) → Matches (many (sources l)) s → Put (each l) u s) m
    (λ s n. ([], p_none n))
    (λ u v a b rest s n. many_fold (Put (each l) (u ++ v)) n
    (let (x, p) = made l a in let (y, q) = rest [] is_none in (x ++ y, p_new u v x y p q))
    (λ s t a' b' _. let (x, p) = put l a a' in let (y, q) = rest t b' in (x ++ y, p_both u v s t x y p q))) s n

-- A source looks like one text.
shows_one : {l : View} {s t u v : Text} → Clear l → Shows l s u → Shows l t v → s ≡ t → u ≡ v
shows_one c (s_copy a) (s_copy b) e = e
shows_one c (s_hide a) (s_hide b) e = refl
shows_one c (s_then s t u v a b) (s_then s' t' u' v' a' b') e =
    let (p, q) = c.2 s t s' t' (shows_source a) (shows_source b) (shows_source a') (shows_source b') e in
    ap₂ ◌++◌ (shows_one c.0 a a' p) (shows_one c.1 b b' q)
shows_one c (s_swap s t u v a b) (s_swap s' t' u' v' a' b') e =
    let (p, q) = c.2 s t s' t' (shows_source a) (shows_source b) (shows_source a') (shows_source b') e in
    ap₂ ◌++◌ (shows_one c.1 b b' q) (shows_one c.0 a a' p)
shows_one c (s_left a) (s_left b) e = shows_one c.0 a b e
shows_one c (s_left a) (s_right b) e = never c.2 (shows_source a) (shows_source b) e
shows_one c (s_right a) (s_left b) e = never c.2 (shows_source b) (shows_source a) (sym e)
shows_one c (s_right a) (s_right b) e = shows_one c.1 a b e
shows_one c s_none s_none e = refl
shows_one c s_none (s_more s t u v a b) e = not_empty t c.1 (shows_source a) (sym e)
shows_one c (s_more s t u v a b) s_none e = not_empty t c.1 (shows_source a) e
shows_one c (s_more s t u v a b) (s_more s' t' u' v' a' b') e =
    let (p, q) = c.1.1 s t s' t' (shows_source a) (shows_source b) (shows_source a') (shows_source b') e in
    ap₂ ◌++◌ (shows_one c.0 a a' p) (shows_one c b b' q)

-- Of a look one source is made.
makes_one : {l : View} {u v s t : Text} → Clear l → Makes l u s → Makes l v t → u ≡ v → s ≡ t
makes_one c (m_copy a) (m_copy b) e = e
makes_one c m_hide m_hide e = refl
makes_one c (m_then u v s t a b) (m_then u' v' s' t' a' b') e =
    let (p, q) = c.3 u v u' v' (makes_look c.0 a) (makes_look c.1 b) (makes_look c.0 a') (makes_look c.1 b') e in
    ap₂ ◌++◌ (makes_one c.0 a a' p) (makes_one c.1 b b' q)
makes_one c (m_swap u v s t a b) (m_swap u' v' s' t' a' b') e =
    let (q, p) = c.3 v u v' u' (makes_look c.1 b) (makes_look c.0 a) (makes_look c.1 b') (makes_look c.0 a') e in
    ap₂ ◌++◌ (makes_one c.0 a a' p) (makes_one c.1 b b' q)
makes_one c (m_left a) (m_left b) e = makes_one c.0 a b e
makes_one c (m_left a) (m_right b) e = never c.3 (makes_look c.0 a) (makes_look c.1 b) e
makes_one c (m_right a) (m_left b) e = never c.3 (makes_look c.0 b) (makes_look c.1 a) (sym e)
makes_one c (m_right a) (m_right b) e = makes_one c.1 a b e
makes_one c m_none m_none e = refl
makes_one c m_none (m_more u v s t a b) e = not_empty v c.2 (makes_look c.0 a) (sym e)
makes_one c (m_more u v s t a b) m_none e = not_empty v c.2 (makes_look c.0 a) e
makes_one c (m_more u v s t a b) (m_more u' v' s' t' a' b') e =
    let (p, q) = c.2.1 u v u' v' (makes_look c.0 a) (makes_look c b) (makes_look c.0 a') (makes_look c b') e in
    ap₂ ◌++◌ (makes_one c.0 a a' p) (makes_one c b b' q)

-- A look is put back into a source in one way.
puts_one : {l : View} {u v s t x y : Text} → Clear l → Puts l u s x → Puts l v t y → u ≡ v → s ≡ t → x ≡ y
puts_one c (p_copy a b) (p_copy a' b') e f = e
puts_one c (p_hide a) (p_hide a') e f = f
puts_one c (p_then u v s t x y a b) (p_then u' v' s' t' x' y' a' b') e f =
    let (p, q) = c.3 u v u' v' (puts_look c.0 a) (puts_look c.1 b) (puts_look c.0 a') (puts_look c.1 b') e in
    let (i, j) = c.2 s t s' t' (puts_source a) (puts_source b) (puts_source a') (puts_source b') f in
    ap₂ ◌++◌ (puts_one c.0 a a' p i) (puts_one c.1 b b' q j)
puts_one c (p_swap u v s t x y a b) (p_swap u' v' s' t' x' y' a' b') e f =
    let (q, p) = c.3 v u v' u' (puts_look c.1 b) (puts_look c.0 a) (puts_look c.1 b') (puts_look c.0 a') e in
    let (i, j) = c.2 s t s' t' (puts_source a) (puts_source b) (puts_source a') (puts_source b') f in
    ap₂ ◌++◌ (puts_one c.0 a a' p i) (puts_one c.1 b b' q j)
puts_one c (p_left a) (p_left b) e f = puts_one c.0 a b e f
puts_one c (p_left a) (p_right b) e f = never c.2 (puts_source a) (puts_source b) f
puts_one c (p_left a) (p_to_left n b) e f = never c.2 (puts_source a) n f
puts_one c (p_left a) (p_to_right n b) e f = never c.3 (puts_look c.0 a) (makes_look c.1 b) e
puts_one c (p_right a) (p_left b) e f = never c.2 (puts_source b) (puts_source a) (sym f)
puts_one c (p_right a) (p_right b) e f = puts_one c.1 a b e f
puts_one c (p_right a) (p_to_left n b) e f = never c.3 (makes_look c.0 b) (puts_look c.1 a) (sym e)
puts_one c (p_right a) (p_to_right n b) e f = never c.2 n (puts_source a) (sym f)
puts_one c (p_to_left m a) (p_left b) e f = never c.2 (puts_source b) m (sym f)
puts_one c (p_to_left m a) (p_right b) e f = never c.3 (makes_look c.0 a) (puts_look c.1 b) e
puts_one c (p_to_left m a) (p_to_left n b) e f = makes_one c.0 a b e
puts_one c (p_to_left m a) (p_to_right n b) e f = never c.2 n m (sym f)
puts_one c (p_to_right m a) (p_left b) e f = never c.3 (puts_look c.0 b) (makes_look c.1 a) (sym e)
puts_one c (p_to_right m a) (p_right b) e f = never c.2 m (puts_source b) f
puts_one c (p_to_right m a) (p_to_left n b) e f = never c.2 m n f
puts_one c (p_to_right m a) (p_to_right n b) e f = makes_one c.1 a b e
puts_one c (p_none m) (p_none n) e f = refl
puts_one c (p_none m) (p_both u v s t x y a b) e f = not_empty v c.2 (puts_look c.0 a) (sym e)
puts_one c (p_none m) (p_new u v x y a b) e f = not_empty v c.2 (makes_look c.0 a) (sym e)
puts_one c (p_both u v s t x y a b) (p_none n) e f = not_empty v c.2 (puts_look c.0 a) e
puts_one c (p_both u v s t x y a b) (p_both u' v' s' t' x' y' a' b') e f =
    let (p, q) = c.2.1 u v u' v' (puts_look c.0 a) (puts_look c b) (puts_look c.0 a') (puts_look c b') e in
    let (i, j) = c.1.1 s t s' t' (puts_source a) (puts_source b) (puts_source a') (puts_source b') f in
    ap₂ ◌++◌ (puts_one c.0 a a' p i) (puts_one c b b' q j)
puts_one c (p_both u v s t x y a b) (p_new u' v' x' y' a' b') e f = not_empty t c.1 (puts_source a) f
puts_one c (p_new u v x y a b) (p_none n) e f = not_empty v c.2 (makes_look c.0 a) e
puts_one c (p_new u v x y a b) (p_both u' v' s t x' y' a' b') e f = not_empty t c.1 (puts_source a') (sym f)
puts_one c (p_new u v x y a b) (p_new u' v' x' y' a' b') e f =
    let (p, q) = c.2.1 u v u' v' (makes_look c.0 a) (puts_look c b) (makes_look c.0 a') (puts_look c b') e in
    ap₂ ◌++◌ (makes_one c.0 a a' p) (puts_one c b b' q refl)

pub clear_works : ClearWorks
clear_works l c = record {
  shows = λ s m. let (u, a) = shown l m in (u, a, shows_look a);
  shows_one = λ s u v a b. shows_one c a b refl;
  makes = λ u m. let (s, a) = made l m in (s, a, shows_source (make_shows c a));
  makes_one = λ u s t a b. makes_one c a b refl;
  puts = λ u s m n. let (x, a) = put l m n in (x, a, shows_source (put_shows c a));
  puts_one = λ u s x y a b. puts_one c a b refl refl;
}
