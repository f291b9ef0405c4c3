-- A view is clear exactly if its conditions hold on both sides.
use Rattle.lens.specs.Views.{View, copy, hide, then, swap, either, each}
use Rattle.lens.specs.Clear.{Clear}
use Rattle.clear.specs.declared.side.Side.TheVariants.{Source, Look}
use Rattle.clear.specs.Sides.{ClearOn}

pub sides_sound : (v : View) → ClearOn Source v → ClearOn Look v → Clear v
sides_sound (copy f) a b = tt
sides_sound (hide f v d) a b = a
sides_sound (then k l) a b = (sides_sound k a.0 b.0, sides_sound l a.1 b.1, a.2, b.2)
sides_sound (swap k l) a b = (sides_sound k a.0 b.0, sides_sound l a.1 b.1, a.2, b.2)
sides_sound (either k l) a b = (sides_sound k a.0 b.0, sides_sound l a.1 b.1, a.2, b.2)
sides_sound (each l) a b = (sides_sound l a.0 b.0, a.1, b.1)

pub sides_complete : (v : View) → Clear v → ClearOn Source v × ClearOn Look v
sides_complete (copy f) c = (tt, tt)
sides_complete (hide f v d) c = (c, tt)
sides_complete (then k l) c = let (a, b) = sides_complete k c.0 in let (a', b') = sides_complete l c.1 in ((a, a', c.2), (b, b', c.3))
sides_complete (swap k l) c = let (a, b) = sides_complete k c.0 in let (a', b') = sides_complete l c.1 in ((a, a', c.2), (b, b', c.3))
sides_complete (either k l) c = let (a, b) = sides_complete k c.0 in let (a', b') = sides_complete l c.1 in ((a, a', c.2), (b, b', c.3))
sides_complete (each l) c = let (a, b) = sides_complete l c.0 in ((a, c.1), (b, c.2))
