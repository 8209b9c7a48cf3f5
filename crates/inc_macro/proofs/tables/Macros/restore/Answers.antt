use Rattle.std.proofs.Common.{◌∙◌, ap}
use Rattle.inc_macro.specs.Macros.{with_found}
use Rattle.inc_macro.specs.Tables.{table_of}
use Rattle.inc_macro.proofs.tables.Macros.restore.Goals as goal

pub returns-in-None : goal.returns-in-None
returns-in-None c = ap (λ o. with_found c.args.name.now o (table_of c.args.self.now)) c.in-None.is ∙ c.remove.ensures
