-- Parts of a view stand behind it in the row; any number of parts of a view ask for one, and that for the view. The parts
-- of the look up to `to` were put into the parts of the source up to `from`, and from there on both texts go on with others.
use Rattle.std.proofs.Common.{◌+◌, ◌-◌, ◌*◌, ◌≤◌, length}
use Rattle.lens.specs.Views.{View}
use Rattle.walk.specs.Spans.{slice}
use Rattle.walk.specs.Walks.{CutSeries}
use Rattle.put_back.specs.Pairs.{SeriesBoth, Putting}
use Rattle.put_back.proofs.putting.PutBack.+putting.Given as goal

abbrev pub decreases-put_part : goal.decreases-put_part
decreases-put_part g l = 3 * (length l.self.now.row.bytes.now - l.place)

abbrev pub decreases-put_next : goal.decreases-put_next
decreases-put_next g l = 3 * (length l.self.now.row.bytes.now - l.place) + 1

abbrev pub decreases-put_each : goal.decreases-put_each
decreases-put_each g l = 3 * (length l.self.now.row.bytes.now - l.place) + 2

abbrev pub invariant-put_each-parts : goal.invariant-put_each-parts
invariant-put_each-parts g l =
    (v : View) → SeriesBoth l.self.row.bytes.now l.self.source l.self.look l.place l.old l.new v →
    CutSeries l.self.row.bytes.now l.self.source l.place l.from l.old.end v × CutSeries l.self.row.bytes.now l.self.look l.place l.to l.new.end v ×
    (l.old.at ≤ l.from) × (l.new.at ≤ l.to) ×
    Putting v (slice l.self.look.scanned.text.now l.new.at l.to) (slice l.self.source.scanned.text.now l.old.at l.from) (l.old.end ≤ l.from)
    (g.S.Sink.took l.initial.sink l.sink)

abbrev pub decreases-put_each-parts : goal.decreases-put_each-parts
decreases-put_each-parts g l = l.new.end - l.to
