use Rattle.inc_expand.proofs.PutSteps.{source-carriers, source-known}
use Rattle.inc_expand.proofs.stacks.Stack.of_source.Goals as goal

pub returns-clause-tokens : goal.returns-clause-tokens
returns-clause-tokens c s = rw c.new.ensures.items (source-carriers s c.args.source.now)

pub returns-clause-known : goal.returns-clause-known
returns-clause-known c s = rw c.new.ensures.items (source-known s c.args.source.now)
