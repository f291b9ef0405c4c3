use Rattle.std.proofs.Common.{◌≡◌, ◌<◌, length, rules}
use Rattle.std.proofs.lemmas.List.{nil_from_length}
use Rattle.trees.proofs.Tables.{accepts_empty, accepts_some}
use Rattle.trees.proofs.table.matches.Goals as goal

pub returns-then-is_empty : goal.returns-then-is_empty
returns-then-is_empty c =
    let none : length c.args.text.now ≡ 0 = search rules in
    accepts_empty c.args.tree.now (nil_from_length _ none) c.get.ensures

pub returns-else-is_empty : goal.returns-else-is_empty
returns-else-is_empty c =
    let some : 0 < length c.args.text.now = search rules in
    accepts_some c.args.tree.now c.requires.tabled some c.get-else-is_empty.ensures
