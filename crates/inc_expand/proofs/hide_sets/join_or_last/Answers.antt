use Rattle.inc_expand.proofs.Tables.{join-kept, joined-now}
use Rattle.inc_expand.proofs.hide_sets.join_or_last.Goals as goal

pub returns-in_err-all-clause-last : goal.returns-in_err-all-clause-last
returns-in_err-all-clause-last c = join-kept c.requires.table c.join.ensures.grows c.args.last.now c.requires.last

pub returns-clause-last : goal.returns-clause-last
returns-clause-last c = joined-now c.requires.table c.join.ensures.grows c.args.a c.args.b c.in_ok-all.all c.requires.a_known c.requires.b_known c.in_ok-all.ensures.gives
