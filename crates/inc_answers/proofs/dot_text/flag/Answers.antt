use Rattle.std.proofs.Common.{◌≡◌, length-set, true}
use Rattle.inc_answers.proofs.NameLemmas.{flag_more}
use Rattle.inc_answers.proofs.dot_text.flag.Goals as goal

pub returns-clause-flags : goal.returns-clause-flags
returns-clause-flags c done are = rw c.index.ensures (flag_more done c.args.edge c.args.flags.now c.requires are)

pub returns-clause-long : goal.returns-clause-long
returns-clause-long c = rw c.index.ensures (length-set c.args.flags.now c.args.edge true)
