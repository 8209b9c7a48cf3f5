use Rattle.std.proofs.Common.{take}
use Rattle.std.specs.Prelude.{flat_map}
use Rattle.inc_answers.specs.CostViews.{seen_amounts}
use Rattle.inc_answers.specs.CostText.{edge_line}
use Rattle.inc_answers.specs.Sending.{Sends}
use Rattle.inc_answers.proofs.cost.send_each_edge.Given as goal

-- the edges so far are sent
abbrev pub invariant-loop-edge : goal.invariant-loop-edge
invariant-loop-edge g l = Sends l.initial.out l.out (flat_map (edge_line l.project l.graph (seen_amounts l.saved)) (take l.edge-index l.edges))
