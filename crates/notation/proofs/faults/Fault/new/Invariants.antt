use Rattle.std.proofs.Common.{take}
use Rattle.notation.proofs.Placing.{Behind}
use Rattle.notation.proofs.faults.Fault.new.Given as goal

abbrev pub invariant-loop-byte : goal.invariant-loop-byte
invariant-loop-byte l = Behind (take l.byte-index l.before) l.line l.column
