use Rattle.std.proofs.Common.{◌≡◌, ◌∙◌, ap, sym}
use Rattle.inc_macro.specs.Macros.{Table, push_macro}
use Rattle.inc_macro.specs.Tables.{Kept, entries_of, found, table_of}
use Rattle.inc_macro.proofs.AsideTables.{pushed}
use Rattle.inc_macro.proofs.tables.Macros.push.Goals as goal

pub returns : goal.returns
returns c =
    let name = c.args.name.now in
    let same = sym c.in_ok-definition.ensures.same in
    let is : c.in_ok-definition.definition ≡ found (entries_of c.self.inside.table.keys) name =
    c.in_ok-definition.ensures.definition ∙ ap (λ (t : Table). t.find name) same ∙ ap (λ (k : Kept). found k.entries name) (sym c.self.view_is) in
    ap (push_macro name) same
    ∙ ap (λ (k : Kept). push_macro name (table_of k)) (sym c.self.view_is)
    ∙ pushed c.self.inside.language (entries_of c.self.inside.table.keys) c.self.inside.stacks c.push.new.self name c.in_ok-definition.definition is c.in_ok-push.ensures
