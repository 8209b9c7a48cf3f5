use Rattle.std.proofs.Common.{rules}
use Rattle.inc_pp.specs.StateViews.{among}
use Rattle.inc_pp.proofs.states.State.new.Goals as goal

pub returns : goal.returns
unfolding among
returns c = search rules
