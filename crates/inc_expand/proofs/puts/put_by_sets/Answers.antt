use Rattle.inc_expand.proofs.PutSteps.{put-union}
use Rattle.inc_expand.proofs.puts.put_by_sets.Goals as goal

pub returns-clause-put : goal.returns-clause-put
returns-clause-put c =
    put-union c.args.sets.now c.next_union.new.sets c.args.line c.args.names c.in_ok-now.now c.args.token.now c.args.list.now c.push_moved.new.list
    c.in_ok-now.ensures.keeps c.requires.names c.requires.token c.requires.list c.in_ok-now.ensures.set c.in_ok-now.ensures.joined c.in_ok-push_moved.ensures
