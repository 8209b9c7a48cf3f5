use Rattle.std.proofs.Common.{◌≡◌, ◌-◌, ◌^◌, length, drop}
use Rattle.inc_cut.specs.Raising.{AreStepsWithin, least_room}
use Rattle.inc_cut.proofs.flows.Flow.least_room.Given as goal

abbrev pub invariant-loop-step : goal.invariant-loop-step
invariant-loop-step l =
    (least_room l.fixed l.self l.least (drop l.step-index l.steps) ≡ least_room l.fixed l.self (2 ^ 64 - 1) l.steps)
    × AreStepsWithin (length l.fixed) (drop l.step-index l.steps) × AreStepsWithin (length l.self) (drop l.step-index l.steps)
