use Rattle.std.proofs.Common.{◌++◌, take}
use Rattle.notation.specs.Written.{Grown}
use Rattle.notation.proofs.Spelling.{letters}
use Rattle.notation.proofs.forms.literal.Given as goal

abbrev pub invariant-loop-byte : goal.invariant-loop-byte
invariant-loop-byte l = Grown l.initial.row l.row (λ s. s ++ letters (take l.byte-index l.front))
