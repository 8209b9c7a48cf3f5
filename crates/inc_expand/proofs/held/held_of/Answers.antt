use Rattle.inc_expand.specs.Carriers.{carrier}
use Rattle.inc_expand.proofs.HeldSteps.{held-is}
use Rattle.inc_expand.proofs.held.held_of.Goals as goal

pub returns : goal.returns
returns c = held-is c.in_ok-item.item c.is_painted-painted.result (carrier c.args.sets.now c.args.token.now) (c.in_ok-item.ensures c.args.sets.now) c.is_painted-painted.ensures
