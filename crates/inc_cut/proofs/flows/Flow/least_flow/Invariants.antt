use Rattle.std.proofs.Common.{◌≡◌, ◌-◌, ◌^◌, length, drop}
use Rattle.inc_cut.specs.Raising.{AreEdgesWithin, least_flow}
use Rattle.inc_cut.proofs.flows.Flow.least_flow.Given as goal

abbrev pub invariant-loop-edge : goal.invariant-loop-edge
invariant-loop-edge l =
    (least_flow l.self l.least (drop l.edge-index l.edges) ≡ least_flow l.self (2 ^ 64 - 1) l.edges) × AreEdgesWithin (length l.self) (drop l.edge-index l.edges)
