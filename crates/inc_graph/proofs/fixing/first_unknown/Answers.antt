use Rattle.std.proofs.Common.{sym}
use Rattle.inc_graph.specs.MarkedEdges.{is_unknown}
use Rattle.inc_graph.proofs.UnknownMarks.{stop_at}
use Rattle.inc_graph.proofs.fixing.first_unknown.Goals as goal

pub returns-then-is_unknown : goal.returns-then-is_unknown
returns-then-is_unknown c =
    sym (stop_at (is_unknown c.args.project.now c.args.graph.now) c.args.marks.now c.loop-index.index c.index-marks-index.result c.loop-index-test.true c.index-marks-index.is c.loop-index.invariant.0 (rw c.lent-mark.ensures at (sym c.if-is_unknown.ensures.unknown)))
