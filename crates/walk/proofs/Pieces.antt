-- From what the parts of a text turn into to what the whole text turns into, for each kind of view and both sides.
use Rattle.std.proofs.Common.{◌≡◌, ℕ, ◌+◌, ◌-◌, ◌≤◌, [], ◌∷◌, ◌++◌, take, drop, sym, refl, ap, ◌∙◌, subst, ap₂, append_assoc, append-nil, le_antisymm, arith, drop-drop, take-add}
use Rattle.lens.specs.Forms.{Text, Form, exactly, Matches}
use Rattle.lens.specs.Views.{View, copy, hide, then, swap, either, each, Shows, s_copy, s_hide, s_then, s_swap, s_left, s_right, s_none, s_more, Makes, m_copy, m_hide, m_then, m_swap, m_left, m_right, m_none, m_more}
use Rattle.lens.proofs.Inversions.{on_empty, on_one, on_seq}
use Rattle.clear.specs.declared.side.Side.{Side}
use Rattle.clear.specs.declared.side.Side.TheVariants.{Source, Look}
use Rattle.clear.specs.Sides.{side_form}
use Rattle.walk.specs.Spans.{slice}
use Rattle.walk.specs.Turns.{Turns, shown, made, other_text, front, back}

-- Parts of a text

pub slice_both : (text : Text) (i m e : ℕ) → i ≤ m → m ≤ e → slice text i e ≡ slice text i m ++ slice text m e
slice_both text i m e l l' =
    let long : e - i ≡ (m - i) + (e - m) = omega arith in
    let on : i + (m - i) ≡ m = omega arith in
    ap (λ n. take n (drop i text)) long ∙ take-add (m - i) (e - m) (drop i text)
    ∙ ap (λ t. slice text i m ++ take (e - m) t) (drop-drop (m - i) i text ∙ ap (λ k. drop k text) on)

pub slice_none : (text : Text) (i : ℕ) → slice text i i ≡ []
slice_none text i = let none : i - i ≡ 0 = omega arith in ap (λ n. take n (drop i text)) none

-- Kinds of views

pub shows : {v : View} {s u : Text} → Turns Source v s u → Shows v s u
shows (shown a) = a

pub makes : {v : View} {u s : Text} → Turns Look v u s → Makes v u s
makes (made a) = a

pub turns_copy : (side : Side) {f : Form} {s : Text} → Matches (side_form side (copy f)) s → Turns side (copy f) s s
turns_copy Source m = shown (s_copy m)
turns_copy Look m = made (m_copy m)

-- One text alone is of the form of that text.
pub exactly_is : (v : Text) {s : Text} → Matches (exactly v) s → s ≡ v
exactly_is [] m = on_empty (λ s. s ≡ []) m refl
exactly_is (x ∷ v) m =
    on_seq (λ s. s ≡ x ∷ v) m (λ a b first rest.
    on_one (λ a. a ++ b ≡ x ∷ v) first (λ y low high. let same : y ≡ x = le_antisymm high low in ap₂ ◌∷◌ same (exactly_is v rest)))

pub turns_hide : (side : Side) {f : Form} {v d s : Text} → Matches (side_form side (hide f v d)) s → Turns side (hide f v d) s (other_text side v d)
turns_hide Source m = shown (s_hide m)
turns_hide Look {f} {v} {d} m = made (subst (λ s. Makes (hide f v d) s d) (sym (exactly_is v m)) m_hide)

pub turns_then : {side : Side} {k l : View} {s t u w : Text} → Turns side k s u → Turns side l t w → Turns side (then k l) (s ++ t) (u ++ w)
turns_then (shown a) (shown b) = shown (s_then _ _ _ _ a b)
turns_then (made a) (made b) = made (m_then _ _ _ _ a b)

-- On both sides the part that stands second in the text gives its result first.
pub turns_swap : (side : Side) (k l : View) {s t u w : Text} → Turns side (front side k l) s u → Turns side (back side k l) t w → Turns side (swap k l) (s ++ t) (w ++ u)
turns_swap Source k l (shown a) (shown b) = shown (s_swap _ _ _ _ a b)
turns_swap Look k l (made a) (made b) = made (m_swap _ _ _ _ b a)

pub turns_left : {side : Side} {k l : View} {s u : Text} → Turns side k s u → Turns side (either k l) s u
turns_left (shown a) = shown (s_left a)
turns_left (made a) = made (m_left a)

pub turns_right : {side : Side} {k l : View} {s u : Text} → Turns side l s u → Turns side (either k l) s u
turns_right (shown a) = shown (s_right a)
turns_right (made a) = made (m_right a)

pub turns_none : (side : Side) {l : View} → Turns side (each l) [] []
turns_none Source = shown s_none
turns_none Look = made m_none

-- One part more, behind the others
shows_more : {l : View} {s t u w : Text} → Shows (each l) s u → Shows l t w → Shows (each l) (s ++ t) (u ++ w)
shows_more {l} {t = t} {w = w} s_none b =
    subst (λ s. Shows (each l) s w) (append-nil t)
    (subst (λ u. Shows (each l) (t ++ []) u) (append-nil w) (s_more t [] w [] b s_none))
shows_more {l} {t = t} {w = w} (s_more s s' u u' a more) b =
    subst (λ x. Shows (each l) x ((u ++ u') ++ w)) (sym (append_assoc s s' t))
    (subst (λ x. Shows (each l) (s ++ (s' ++ t)) x) (sym (append_assoc u u' w)) (s_more s (s' ++ t) u (u' ++ w) a (shows_more more b)))

makes_more : {l : View} {s t u w : Text} → Makes (each l) s u → Makes l t w → Makes (each l) (s ++ t) (u ++ w)
makes_more {l} {t = t} {w = w} m_none b =
    subst (λ s. Makes (each l) s w) (append-nil t)
    (subst (λ u. Makes (each l) (t ++ []) u) (append-nil w) (m_more t [] w [] b m_none))
makes_more {l} {t = t} {w = w} (m_more s s' u u' a more) b =
    subst (λ x. Makes (each l) x ((u ++ u') ++ w)) (sym (append_assoc s s' t))
    (subst (λ x. Makes (each l) (s ++ (s' ++ t)) x) (sym (append_assoc u u' w)) (m_more s (s' ++ t) u (u' ++ w) a (makes_more more b)))

pub turns_more : {side : Side} {l : View} {s t u w : Text} → Turns side (each l) s u → Turns side l t w → Turns side (each l) (s ++ t) (u ++ w)
turns_more (shown a) (shown b) = shown (shows_more a b)
turns_more (made a) (made b) = made (makes_more a b)
