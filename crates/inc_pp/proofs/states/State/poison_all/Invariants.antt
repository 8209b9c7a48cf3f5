use Rattle.std.proofs.Common.{◌≡◌, length, map}
use Rattle.inc_token.specs.Views.{seen}
use Rattle.inc_pp.specs.Poison.{poison_all}
use Rattle.inc_pp.specs.StateViews.{state_of}
use Rattle.inc_pp.specs.Tasks.{State}
use Rattle.inc_pp.proofs.states.State.poison_all.Given as goal

abbrev pub invariant-loop-left : goal.invariant-loop-left
invariant-loop-left l =
    (poison_all (map seen l.left) (state_of l.self) ≡ poison_all (map seen l.fn.tokens) (state_of l.fn.self))
    × ((state_of l.self).reads ≡ (state_of l.fn.self).reads)

abbrev pub decreases-loop-left : goal.decreases-loop-left
decreases-loop-left l = length l.left
