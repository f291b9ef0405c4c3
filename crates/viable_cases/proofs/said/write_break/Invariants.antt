use Rattle.std.proofs.Common.{◌-◌}
use Rattle.viable_cases.proofs.said.write_break.Given as goal

abbrev pub decreases-loop-range : goal.decreases-loop-range
decreases-loop-range g l = 256 - l.from
