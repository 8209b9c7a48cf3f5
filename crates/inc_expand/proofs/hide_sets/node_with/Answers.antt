use Rattle.inc_expand.proofs.Tables.{hint-kept, made-now}
use Rattle.inc_expand.proofs.hide_sets.node_with.Goals as goal

pub returns-in_err-all-clause-hint : goal.returns-in_err-all-clause-hint
returns-in_err-all-clause-hint c = hint-kept c.requires.table c.with.ensures.grows c.args.hint.now c.requires.hint

pub returns-clause-hint : goal.returns-clause-hint
returns-clause-hint c = made-now c.requires.table c.with.ensures.grows c.args.set c.args.number c.in_ok-all.all c.requires.known c.in_ok-all.ensures.gives
