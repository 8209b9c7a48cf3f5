use Rattle.std.proofs.Common.{rules}
use Rattle.inc_globs.proofs.RowLemmas.{one_last, one_more}
use Rattle.inc_globs.proofs.rows.put_one.Goals as goal

pub loop-index-preserved : goal.loop-index-preserved
loop-index-preserved c =
    (search rules, λ rest row. one_more _ rest c.args.path.now c.loop-index.index c.args.row.now c.loop-index.row c.stands_for.result (search rules) row c.stands_for.ensures (c.loop-index.invariant.1 rest row))

pub returns : goal.returns
returns c = λ rest row. one_last _ rest c.args.path.now c.loop-index.index c.args.row.now c.loop-index.row (search rules) row (c.loop-index.invariant.1 rest row)
