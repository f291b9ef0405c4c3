-- That it can be told of every view whether it is clear, as a statement.
use Rattle.std.specs.Prelude.{◌⊎◌}
use Rattle.lens.specs.Views.{View}
use Rattle.lens.specs.Clear.{Clear}

abbrev pub Told : Type 0
Told = (l : View) → Clear l ⊎ (Clear l → ⊥)
