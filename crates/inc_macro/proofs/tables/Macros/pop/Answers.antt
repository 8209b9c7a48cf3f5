use Rattle.std.proofs.Common.{◌≡◌, ◌∙◌, ◌++◌, ◌∷◌, [], ap, sym, rules}
use Rattle.inc_macro.specs.Macros.{pop_macro}
use Rattle.inc_macro.specs.Tables.{Kept, entries_of, stack_of, table_of}
use Rattle.inc_macro.proofs.AsideTables.{popped-one}
use Rattle.inc_macro.proofs.tables.Macros.pop.Goals as goal

pub returns-in_ok-restore-in-Some : goal.returns-in_ok-restore-in-Some
returns-in_ok-restore-in-Some c =
    let name = c.args.name.now in
    let last : stack_of c.self.inside.stacks name ≡ stack_of c.pop.new.self name ++ c.in-Some.definition ∷ [] = search rules in
    ap (λ (k : Kept). pop_macro name (table_of k)) (sym c.self.view_is)
    ∙ popped-one c.self.inside.language (entries_of c.self.inside.table.keys) c.self.inside.stacks c.pop.new.self name c.in_ok-definition.ensures.others c.in-Some.definition last
    ∙ c.in_ok-restore-in-Some.ensures
