use Rattle.std.proofs.Common.{rules}
use Rattle.inc_build.proofs.CommandLemmas.{lent}
use Rattle.inc_build.proofs.commands.Walk.lent_len.Goals as goal

pub returns-then-stops-clause-word : goal.returns-then-stops-clause-word
returns-then-stops-clause-word c = rw c.plain_len-len.ensures.len (λ some. lent c.args.text.now (search rules) some)
