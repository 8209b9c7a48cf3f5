use Rattle.std.proofs.Common.{◌≡◌, drop}
use Rattle.inc_cut.specs.Raising.{lowered, IsLowerable}
use Rattle.inc_cut.proofs.flows.Flow.lower.Given as goal

abbrev pub invariant-loop-edge : goal.invariant-loop-edge
invariant-loop-edge l =
    (lowered l.amount l.self (drop l.edge-index l.edges) ≡ lowered l.amount l.initial.self l.edges) × IsLowerable l.amount l.self (drop l.edge-index l.edges)
