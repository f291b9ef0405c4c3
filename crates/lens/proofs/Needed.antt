-- Views that pass with a weaker condition and do not work.
-- Not here: the weaker conditions (specs/Needed).
use mathlib.Core.Path.{◌≡◌, refl, sym, ap, ap₂, subst, transport}
use mathlib.Core.Logic.{inl}
use mathlib.Core.List.{[]}
use Prim.Native.Nat.{ℕ}
use native.Mathlib.Omega.{arith}
use lib.Chars.{codes}
use lib.Dec.{lit≤}
use Rattle.lens.specs.Forms.{Form, one, seq, many, Matches, is_empty, is_one, is_seq, is_none, is_more}
use Rattle.lens.specs.Views.{View, copy, hide, then, swap, either, each, sources, looks, Makes, m_copy, m_hide, m_swap, Puts, p_hide, p_none, p_both}
use Rattle.lens.specs.Clear.{CutOnce, Apart, PartsOnce, Clear}
use Rattle.lens.specs.Needed.{Careful, AnyDefault, SourceOrder, SourceParts, TooWeak, Needed}
use Rattle.lens.proofs.Texts.{cons_not_nil}
use Rattle.lens.proofs.Cuts.{run_cut, ones_apart, one_parts}

-- With the conditions of Clear it is Clear.
careful : (l : View) → Clear l ≡ Careful l
careful (copy f) = refl
careful (hide f v d) = refl
careful (then k l) = ap₂ (λ K L. K × L × CutOnce (sources k) (sources l) × CutOnce (looks k) (looks l)) (careful k) (careful l)
careful (swap k l) = ap₂ (λ K L. K × L × CutOnce (sources k) (sources l) × CutOnce (looks l) (looks k)) (careful k) (careful l)
careful (either k l) = ap₂ (λ K L. K × L × Apart (sources k) (sources l) × Apart (looks k) (looks l)) (careful k) (careful l)
careful (each l) = ap (λ L. L × PartsOnce (sources l) × PartsOnce (looks l)) (careful l)

-- The letters a and b, and a run of a.
abbrev a : Form
a = one 97 97

abbrev b : Form
b = one 98 98

is_a : Matches a (codes "a")
is_a = is_one (lit≤ tt) (lit≤ tt)

is_b : Matches b (codes "b")
is_b = is_one (lit≤ tt) (lit≤ tt)

is_run : Matches (many a) (codes "a")
is_run = is_more (codes "a") [] is_a is_none

-- The hidden a with the default b: what is made is no source.
not_b : Matches a (codes "b") → ⊥
not_b (is_one p q) = omega arith

any_default : TooWeak AnyDefault
any_default = (
  hide a [] (codes "b"),
  tt,
  λ works.
      let (s, m, k) = works.makes [] is_empty in
      not_b (subst (Matches a) (works.makes_one [] s (codes "b") m m_hide) k),
)

-- A run of a, swapped with a b that has a run of a behind it: of ba both ab and ba are made.
abbrev swapped : View
swapped = swap (copy (many a)) (copy (seq b (many a)))

source_order : TooWeak SourceOrder
source_order = (
  swapped,
  (tt, tt, cut, cut),
  λ works.
      let e = works.makes_one (codes "ba") (codes "ab") (codes "ba") makes_ab makes_ba in
      let z : ◌≡◌ {A = ℕ} 97 98 = cc in
      omega arith,
)
  where
    cut : CutOnce (many a) (seq b (many a))
    cut = run_cut (ones_apart (inl (omega arith)))

    makes_ab : Makes swapped (codes "ba") (codes "ab")
    makes_ab = m_swap (codes "a") (codes "b") (codes "a") (codes "b") (m_copy is_run) (m_copy (is_seq (codes "b") [] is_b is_none))

    makes_ba : Makes swapped (codes "ba") (codes "ba")
    makes_ba = m_swap [] (codes "ba") [] (codes "ba") (m_copy is_none) (m_copy (is_seq (codes "b") (codes "a") is_b is_run))

-- Each a hidden: nothing put back into a gives nothing, and gives a.
abbrev all_hidden : View
all_hidden = each (hide a [] (codes "a"))

source_parts : TooWeak SourceParts
source_parts = (
  all_hidden,
  (is_a, one_parts, one_parts),
  λ works. cons_not_nil (works.puts_one [] (codes "a") (codes "a") [] gives_a (p_none is_run)),
)
  where
    gives_a : Puts all_hidden [] (codes "a") (codes "a")
    gives_a = p_both [] [] (codes "a") [] (codes "a") [] (p_hide is_a) (p_none is_none)

pub needed : Needed
needed = record {
  careful = λ l. (transport (careful l), transport (sym (careful l)));
  any_default = any_default;
  source_order = source_order;
  source_parts = source_parts;
}
