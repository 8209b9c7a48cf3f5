use Rattle.inc_expand.proofs.HeldSteps.{pushed-known, pushed-list}
use Rattle.inc_expand.proofs.held.push_held.Goals as goal

pub returns-clause-known : goal.returns-clause-known
returns-clause-known c =
    pushed-known c.args.sets.now c.set_of.new.sets c.set_of.ensures.keeps c.args.token.now c.in_ok-set.set c.args.list.now c.push.new.self c.requires.list c.in_ok-push.ensures c.in_ok-set.ensures.known

pub returns-clause-list : goal.returns-clause-list
returns-clause-list c =
    pushed-list c.args.sets.now c.set_of.new.sets c.set_of.ensures.keeps c.args.token.now c.in_ok-set.set c.args.list.now c.push.new.self c.requires.list c.in_ok-push.ensures c.in_ok-set.ensures.members
