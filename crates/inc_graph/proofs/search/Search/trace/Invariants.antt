use Rattle.inc_graph.proofs.PathTraces.{IsTrace}
use Rattle.inc_graph.proofs.search.Search.trace.Given as goal

abbrev pub invariant-loop-parent : goal.invariant-loop-parent
invariant-loop-parent g l = IsTrace l.self-inside.queue.items l.initial.steps.items l.fn.place l.fn.end l.steps.items l.at l.start

abbrev pub decreases-loop-parent : goal.decreases-loop-parent
decreases-loop-parent g l = l.at
