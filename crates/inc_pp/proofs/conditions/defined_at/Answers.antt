use Rattle.inc_macro.specs.Tables.{table_of}
use Rattle.inc_pp.proofs.TakenSteps.{third-name}
use Rattle.inc_pp.proofs.StopSteps.{line-at}
use Rattle.inc_pp.proofs.conditions.defined_at.Goals as goal

pub returns-in-Some-clause-done : goal.returns-in-Some-clause-done
returns-in-Some-clause-done c = λ l at. third-name (table_of c.args.macros.now) l.tokens _ _ (c.token.ensures l at) c.in-Some.ensures

pub returns-in-None-clause-stop : goal.returns-in-None-clause-stop
returns-in-None-clause-stop c = λ l at. (
  line-at c.args.lines.now c.args.i l c.first_line.result at c.first_line.ensures,
  third-name (table_of c.args.macros.now) l.tokens _ _ (c.token.ensures l at) c.in-None.ensures,
)
