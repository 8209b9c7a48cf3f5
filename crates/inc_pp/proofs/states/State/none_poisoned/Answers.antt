use Rattle.std.proofs.Common.{sym, ◌∙◌}
use Rattle.inc_pp.proofs.PoisonSteps.{among-is, none-among, not-true}
use Rattle.inc_pp.proofs.states.State.none_poisoned.Goals as goal

pub returns : goal.returns
returns c = λ none name.
    among-is c.args.self.now.poisoned name ∙ none-among c.args.self.now.poisoned (sym c.exceeds.ensures ∙ not-true c.exceeds.result none) name
