-- Parts of a view stand behind it in the row; any number of parts of a view ask for that view. Of those, the parts up to
-- `from` were given, and from there on the text goes on with the others.
use Rattle.std.proofs.Common.{◌+◌, ◌-◌, ◌*◌, ◌≤◌, length}
use Rattle.lens.specs.Views.{View, each}
use Rattle.walk.specs.Spans.{slice}
use Rattle.walk.specs.Turns.{Turns, GivesSome}
use Rattle.walk.specs.Walks.{CutSeries}
use Rattle.walk.proofs.turning.Turned.+turning.Given as goal

abbrev pub decreases-turn_part : goal.decreases-turn_part
decreases-turn_part g l = 2 * (length l.self.now.row.bytes.now - l.place)

abbrev pub decreases-turn_each : goal.decreases-turn_each
decreases-turn_each g l = 2 * (length l.self.now.row.bytes.now - l.place) + 1

abbrev pub invariant-turn_each-parts : goal.invariant-turn_each-parts
invariant-turn_each-parts g l =
    (v : View) → CutSeries l.self.row.bytes.now l.self.cut l.place l.parts.at l.parts.end v →
    CutSeries l.self.row.bytes.now l.self.cut l.place l.from l.parts.end v × (l.parts.at ≤ l.from) ×
    GivesSome (Turns l.self.cut.side (each v) (slice l.self.cut.scanned.text.now l.parts.at l.from)) (g.S.Sink.took l.initial.sink l.sink)

abbrev pub decreases-turn_each-parts : goal.decreases-turn_each-parts
decreases-turn_each-parts g l = l.parts.end - l.from
