use Rattle.std.proofs.Common.{◌<◌, ◌-◌, sym, arith}
use Rattle.inc_expand.proofs.shared_sets.depth_of.Goals as goal

pub overflow_add-result : goal.overflow_add-result
overflow_add-result c =
    let low : c.in-Some.node.now.level < 32 = (c.requires.table.each (c.args.set - 2) c.in-Some.node.now (sym c.in-Some.ensures.key)).shallow in
    omega (arith, low)

pub returns-in-Some-clause-deep : goal.returns-in-Some-clause-deep
returns-in-Some-clause-deep c =
    let low : c.in-Some.node.now.level < 32 = (c.requires.table.each (c.args.set - 2) c.in-Some.node.now (sym c.in-Some.ensures.key)).shallow in
    omega (arith, low)
