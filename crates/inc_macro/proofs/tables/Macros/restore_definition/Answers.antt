use Rattle.std.proofs.Common.{◌≡◌, ◌∙◌, rules, true, None, is_some}
use Rattle.inc_macro.specs.Tables.{found, table_of}
use Rattle.inc_macro.proofs.AsideTables.{found-new, found-some}
use Rattle.inc_macro.proofs.tables.Macros.restore_definition.Goals as goal

pub returns-then-is_some : goal.returns-then-is_some
returns-then-is_some c =
    let some : is_some (found c.args.self.now.entries c.args.definition.name) ≡ true = search rules in
    found-some c.args.definition (table_of c.args.self.now) some ∙ c.in_ok-exchange.ensures.done

pub returns : goal.returns
returns c =
    let none : found c.args.self.now.entries c.args.definition.name ≡ None = search rules in
    found-new c.args.definition (table_of c.args.self.now) none ∙ c.in_ok-add.ensures.done
