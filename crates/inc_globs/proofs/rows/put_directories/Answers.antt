use Rattle.std.proofs.Common.{◌-◌, rules}
use Rattle.inc_globs.proofs.RowLemmas.{directories_first, directories_more, filled_row}
use Rattle.inc_globs.proofs.rows.put_directories.Goals as goal

pub loop-at-init : goal.loop-at-init
loop-at-init c = (search rules, search rules, λ rest row. directories_first rest c.args.path.now c.args.row.now row)

pub loop-at-preserved : goal.loop-at-preserved
loop-at-preserved c =
    (search rules, search rules, λ rest row. directories_more rest c.args.path.now (c.loop-at.at - 1) c.loop-at.at c.loop-at.behind c.loop-at.below c.args.row.now c.loop-at.row (search rules) (search rules) row (c.loop-at.invariant.2 rest row))

pub returns : goal.returns
returns c = λ rest row. filled_row _ c.args.path.now c.loop-at.at c.args.row.now c.loop-at.row c.requires (search rules) (c.loop-at.invariant.2 rest row).filled
