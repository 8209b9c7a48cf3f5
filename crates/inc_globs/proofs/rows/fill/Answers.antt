use Rattle.std.proofs.Common.{rules}
use Rattle.inc_globs.proofs.RowLemmas.{row_of_none}
use Rattle.inc_globs.proofs.rows.fill.Goals as goal

pub returns : goal.returns
returns c = row_of_none c.args.path.now c.push.new.self.items (search rules)
