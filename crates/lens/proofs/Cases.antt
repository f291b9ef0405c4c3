-- The worked views: that they are clear, and a derivation for each text shown, made and put back.
-- Not here: the views and the texts (specs/Cases).
use mathlib.Core.Logic.{inl, inr}
use mathlib.Core.Bool.{Bool, true, false, ◌&&◌}
use mathlib.Core.List.{[], ◌∷◌, ◌++◌}
use Prim.Native.Nat.{ℕ}
use native.Mathlib.Omega.{arith}
use lib.Chars.{codes}
use lib.Dec.{T, leb, lit≤}
use Rattle.lens.specs.Forms.{Text, Form, one, seq, many, Matches, is_one, is_seq, is_none, is_more}
use Rattle.lens.specs.Views.{Shows, Makes, Puts, s_copy, s_hide, s_then, m_copy, m_hide, m_then, p_copy, p_hide, p_then}
use Rattle.lens.specs.Clear.{CutOnce, Clear}
use Rattle.lens.specs.Cases.{digits, mark, letters, remark, line, entry, page, LetterHidden, LenderStays}
use Rattle.lens.proofs.Works.{clear_works}
use Rattle.lens.proofs.Cuts.{empty_cut, one_cut, seq_cut, run_cut, ones_apart, cut_empty, cut_end}

-- A run of bytes from a to b.
abbrev within : ℕ → ℕ → Text → Bool
within a b [] = true
within a b (x ∷ u) = (leb a x && leb x b) && within a b u

T_and : (p q : Bool) → T (p && q) → T p × T q
T_and true q h = (tt, h)
T_and false q h = absurd h

run : {a b : ℕ} (u : Text) → T (within a b u) → Matches (many (one a b)) u
run [] h = is_none
run {a} {b} (x ∷ u) h =
    let (here, rest) = T_and (leb a x && leb x b) (within a b u) h in
    let (low, high) = T_and (leb a x) (leb x b) here in
    is_more (x ∷ []) u (is_one (lit≤ low) (lit≤ high)) (run u rest)

-- Digits are shown, and the letter behind them is hidden.
pub letter_hidden : LetterHidden
letter_hidden = record {
  clear = (tt, is_one (lit≤ tt) (lit≤ tt), cut_end (run_cut (ones_apart (inl (omega arith)))), cut_empty);
  shown = s_then (codes "12") (codes "a") (codes "12") [] (s_copy is_12) (s_hide is_a);
  made = m_then (codes "1") [] (codes "1") (codes "x") (m_copy is_1) m_hide;
  put_back = p_then (codes "1") [] (codes "12") (codes "a") (codes "1") (codes "a") (p_copy is_1 is_12) (p_hide is_a);
}
  where
    is_12 : Matches digits (codes "12")
    is_12 = run (codes "12") tt

    is_1 : Matches digits (codes "1")
    is_1 = run (codes "1") tt

    is_a : Matches (one 97 122) (codes "a")
    is_a = is_one (lit≤ tt) (lit≤ tt)

-- A line of a catalogue: what is changed on the page leaves the lender as it is.
abbrev semicolon : Text
semicolon = codes ";"

is_mark : Matches mark semicolon
is_mark = is_one (lit≤ tt) (lit≤ tt)

is_lender : {a : Text} → Matches letters a → Matches (seq letters mark) (a ++ semicolon)
is_lender {a} i = is_seq a semicolon i is_mark

line_clear : Clear line
line_clear = (tt, (tt, (is_lender is_none, tt, lender_cut, empty_cut), one_cut, one_cut), digits_cut, digits_cut)
  where
    lender_cut : CutOnce (seq letters mark) remark
    lender_cut = seq_cut (run_cut (ones_apart (inr (omega arith)))) one_cut

    digits_cut : {f : Form} → CutOnce digits (seq mark f)
    digits_cut = run_cut (ones_apart (inl (omega arith)))

line_shown : {n a r : Text} → Matches digits n → Matches letters a → Matches remark r → Shows line (entry n a r) (page n r)
line_shown {n} {a} {r} i j k =
    s_then n _ n _ (s_copy i)
    (s_then semicolon _ semicolon _ (s_copy is_mark)
    (s_then (a ++ semicolon) r [] r (s_hide (is_lender j)) (s_copy k)))

line_made : {n r : Text} → Matches digits n → Matches remark r → Makes line (page n r) (entry n [] r)
line_made {n} {r} i k =
    m_then n _ n _ (m_copy i)
    (m_then semicolon _ semicolon _ (m_copy is_mark)
    (m_then [] r semicolon r m_hide (m_copy k)))

line_put : {m n a q r : Text} → Matches digits m → Matches digits n → Matches letters a → Matches remark q → Matches remark r → Puts line (page m q) (entry n a r) (entry m a q)
line_put {m} {n} {a} {q} {r} h i j p k =
    p_then m _ n _ m _ (p_copy h i)
    (p_then semicolon _ semicolon _ semicolon _ (p_copy is_mark is_mark)
    (p_then [] q (a ++ semicolon) r (a ++ semicolon) q (p_hide (is_lender j)) (p_copy p k)))

changed : Puts line (codes "7;c;d") (codes "7;Ann;a;b") (codes "7;Ann;c;d")
changed = line_put (run (codes "7") tt) (run (codes "7") tt) (run (codes "Ann") tt) (run (codes "c;d") tt) (run (codes "a;b") tt)

pub lender_stays : LenderStays
lender_stays = record {
  clear = line_clear;
  shown = λ n a r i j k. line_shown i j k;
  made = λ n r i k. line_made i k;
  put_back = λ m n a q r h i j p k. line_put h i j p k;
  before = line_shown (run (codes "7") tt) (run (codes "Ann") tt) (run (codes "a;b") tt);
  after = changed;
  only_after = λ x a. (clear_works line line_clear).puts_one _ _ _ _ a changed;
}
