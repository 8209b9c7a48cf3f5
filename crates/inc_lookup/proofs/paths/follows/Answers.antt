use Rattle.inc_lookup.proofs.SimplePaths.{simple_path_on}
use Rattle.inc_lookup.proofs.paths.follows.Goals as goal

pub returns-then-is_less_after-clause-simple : goal.returns-then-is_less_after-clause-simple
returns-then-is_less_after-clause-simple c = λ yes.
    simple_path_on c.args.last.now c.args.path.now c.shared_len-common.result c.requires c.shared_len-common.ensures c.if-common-gt0.true (c.goes_on.ensures yes)
