use Rattle.std.proofs.Common.{take}
use Rattle.std.specs.Prelude.{flat_map}
use Rattle.inc_graph.specs.declared.graphs.Edge as declared
use Rattle.inc_graph.specs.Views.{seen_edge}
use Rattle.inc_answers.specs.GraphText.{edge_text}
use Rattle.inc_answers.specs.Sending.{Sends}
use Rattle.inc_answers.proofs.graph.send_edges.Given as goal

-- the lines so far are sent
abbrev pub invariant-loop-edge : goal.invariant-loop-edge
invariant-loop-edge g l = Sends l.initial.out l.out
    (flat_map (λ (e : declared.Edge). edge_text l.project (seen_edge e)) (take l.edge-index l.edges))
