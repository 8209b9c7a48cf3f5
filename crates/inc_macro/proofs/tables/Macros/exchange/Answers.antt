use Rattle.std.proofs.Common.{◌∙◌, ap, sym, is_some}
use Rattle.inc_macro.specs.Macros.{with_other}
use Rattle.inc_macro.specs.Tables.{Kept, found, table_of}
use Rattle.inc_macro.proofs.TableSteps.{exchanged, slots-exchanged}
use Rattle.inc_macro.proofs.tables.Macros.exchange.Goals as goal

pub invariant_of-self-2 : goal.invariant_of-self-2
invariant_of-self-2 c =
    let some = ap (λ (k : Kept). is_some (found k.entries c.args.definition.name)) c.self.view_is ∙ c.requires in
    (slots-exchanged c.self.inside.slots.items c.self.inside.table.keys c.replace.new.self.keys c.args.definition some c.in_ok-replace.ensures.keys c.self.invariant.0, c.replace.ensures.unique)

pub returns-clause-done : goal.returns-clause-done
returns-clause-done c =
    let d = c.args.definition in
    let some = ap (λ (k : Kept). is_some (found k.entries d.name)) c.self.view_is ∙ c.requires in
    ap (λ (k : Kept). with_other d (table_of k)) (sym c.self.view_is)
    ∙ exchanged c.self.inside.language c.self.inside.stacks c.self.inside.table.keys c.replace.new.self.keys d some c.in_ok-replace.ensures.keys
