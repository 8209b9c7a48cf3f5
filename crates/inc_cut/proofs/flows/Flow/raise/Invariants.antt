use Rattle.std.proofs.Common.{◌≡◌, drop}
use Rattle.inc_cut.specs.Raising.{raised, IsRaisable}
use Rattle.inc_cut.proofs.flows.Flow.raise.Given as goal

abbrev pub invariant-loop-step : goal.invariant-loop-step
invariant-loop-step l =
    (raised l.amount l.self (drop l.step-index l.steps) ≡ raised l.amount l.initial.self l.steps) × IsRaisable l.amount l.self (drop l.step-index l.steps)
