-- The bytes below this one are marked if some state reads them.
use Rattle.std.proofs.Common.{◌≡◌, length}
use Rattle.viable.specs.States.{Expects}
use Rattle.viable.proofs.scanner.Scanner.expected.Given as goal

abbrev pub invariant-loop-byte : goal.invariant-loop-byte
invariant-loop-byte l = Expects l.self.automaton.table.now l.self.automaton.states l.set l.byte l.words × (length l.words ≡ 8)
