use Rattle.std.proofs.Common.{◌-◌, rules}
use Rattle.inc_globs.proofs.RowLemmas.{filled_row, many_first, many_more}
use Rattle.inc_globs.proofs.rows.put_many.Goals as goal

pub loop-at-init : goal.loop-at-init
loop-at-init c = (search rules, search rules, λ rest row. many_first _ rest c.args.path.now c.args.row.now row)

pub loop-at-preserved : goal.loop-at-preserved
loop-at-preserved c =
    (search rules, search rules, λ rest row. many_more _ rest c.args.path.now (c.loop-at.at - 1) c.loop-at.at c.args.row.now c.loop-at.row c.stands_for.result (search rules) (search rules) row c.stands_for.ensures (c.loop-at.invariant.2 rest row))

pub returns : goal.returns
returns c = λ rest row. filled_row _ c.args.path.now c.loop-at.at c.args.row.now c.loop-at.row c.requires (search rules) (c.loop-at.invariant.2 rest row)
