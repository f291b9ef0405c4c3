use Rattle.std.proofs.Common.{refl, lit<, lit≤}
use Rattle.rows.proofs.number_row.Goals as goal

pub returns : goal.returns
returns c = record { row = refl; fine = ((lit≤ tt, lit< tt), ((lit≤ tt, lit< tt), ((lit< tt, tt), (lit< tt, (lit< tt, tt))))); short = lit≤ tt }
