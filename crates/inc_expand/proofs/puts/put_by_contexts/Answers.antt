use Rattle.inc_expand.proofs.PutSteps.{put-moved}
use Rattle.inc_expand.proofs.puts.put_by_contexts.Goals as goal

pub returns-clause-put : goal.returns-clause-put
returns-clause-put c =
    put-moved c.args.sets.now c.args.line c.args.names c.set_at-set.result c.args.token.now c.args.list.now c.push_moved.new.list
    c.set_at-set.ensures.known c.requires.list c.set_at-set.ensures.set c.in_ok-push_moved.ensures
