use Rattle.inc_pp.specs.StateViews.{state_of}
use Rattle.inc_pp.proofs.PoisonSteps.{asked-none}
use Rattle.inc_pp.proofs.states.State.ask_line.Goals as goal

pub returns-then-none_poisoned-clause-done : goal.returns-then-none_poisoned-clause-done
returns-then-none_poisoned-clause-done c = λ f l at. asked-none f l (state_of c.args.self.now) (c.none_poisoned.ensures c.if-none_poisoned.true)
