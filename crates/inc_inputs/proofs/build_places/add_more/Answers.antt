use Rattle.std.proofs.Common.{rules}
use Rattle.inc_inputs.proofs.SourceLemmas.{more_there}
use Rattle.inc_inputs.proofs.build_places.add_more.Goals as goal

pub returns-clause-lists : goal.returns-clause-lists
returns-clause-lists c =
    more_there c.args.lists.now.items c.args.place c.args.more.now c.extend_from_slice.new.self c.index_mut.result.now (search rules) (search rules)
