-- The form of a view that is planted in a tree.
use Rattle.std.proofs.Common.{◌≡◌, ℕ, ◌+◌, List, refl, subst}
use Rattle.lens.specs.Forms.{Form, seq, or, many}
use Rattle.lens.specs.Views.{View, copy, hide, then, swap, either, each}
use Rattle.clear.specs.declared.side.Side.{Side}
use Rattle.clear.specs.declared.side.Side.TheVariants.{Source, Look}
use Rattle.clear.specs.Sides.{side_form}
use Rattle.trees.specs.Tree.{Grows, grows_seq, grows_or, grows_many, grows_same}
use Rattle.grow.specs.Planted.{Planted, planted_copy, planted_hidden, planted_shown, planted_then, planted_swap, planted_turned, planted_either, planted_each}

-- The form of a side, for the views that have the same nodes on both sides
copy_form : (side : Side) (f : Form) → f ≡ side_form side (copy f)
copy_form Source f = refl
copy_form Look f = refl

then_form : (side : Side) (k l : View) → seq (side_form side k) (side_form side l) ≡ side_form side (then k l)
then_form Source k l = refl
then_form Look k l = refl

either_form : (side : Side) (k l : View) → or (side_form side k) (side_form side l) ≡ side_form side (either k l)
either_form Source k l = refl
either_form Look k l = refl

each_form : (side : Side) (l : View) → many (side_form side l) ≡ side_form side (each l)
each_form Source l = refl
each_form Look l = refl

-- A planted view stands for the form of its side.
pub planted_grows : (t : List ℕ) (side : Side) (at : ℕ) (v : View) → Planted t side at v → Grows t at (side_form side v)
planted_grows t side at (copy f) (planted_copy here a) = subst (Grows t at) (copy_form side f) (grows_same (at + 1) here a)
planted_grows t Source at (hide f v d) (planted_hidden here a) = grows_same (at + 1) here a
planted_grows t Look at (hide f v d) (planted_shown m m_is here a) = grows_same m here a
planted_grows t side at (then k l) (planted_then m m_is here a b) = subst (Grows t at) (then_form side k l) (grows_seq (at + 1) m here (planted_grows t side (at + 1) k a) (planted_grows t side m l b))
planted_grows t Source at (swap k l) (planted_swap m m_is here a b) = grows_seq (at + 1) m here (planted_grows t Source (at + 1) k a) (planted_grows t Source m l b)
planted_grows t Look at (swap k l) (planted_turned m m_is here a b) = grows_seq m (at + 1) here (planted_grows t Look m l b) (planted_grows t Look (at + 1) k a)
planted_grows t side at (either k l) (planted_either m m_is here a b) = subst (Grows t at) (either_form side k l) (grows_or (at + 1) m here (planted_grows t side (at + 1) k a) (planted_grows t side m l b))
planted_grows t side at (each l) (planted_each here a) = subst (Grows t at) (each_form side l) (grows_many (at + 1) here (planted_grows t side (at + 1) l a))
