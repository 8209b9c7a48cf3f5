use Rattle.std.proofs.Common.{◌≡◌, ◌∙◌, ap, sym, cond, ℕ, List, None, bytes_eq}
use Rattle.inc_macro.specs.Macros.{Table, with_found}
use Rattle.inc_macro.specs.Tables.{Kept, entries_of, found, table_of}
use Rattle.inc_macro.proofs.AsideTables.{found-none}
use Rattle.inc_macro.proofs.NamedEntries.{found-any, found-less}
use Rattle.inc_macro.proofs.TableSteps.{removed, slots-removed, table_in}
use Rattle.inc_macro.proofs.tables.Macros.remove.Goals as goal

-- what the names find afterwards
updates : (c : goal.After-swap_remove) (q : List ℕ)
    → found (entries_of c.swap_remove.new.self.keys) q ≡ cond (bytes_eq c.args.name.now q) None (found (entries_of c.self.inside.table.keys) q)
updates c = found-less c.self.inside.table.keys c.swap_remove.new.self.keys c.args.name.now c.self.invariant.1 c.swap_remove.ensures.keys

pub returns : goal.returns
returns c =
    let keys = c.self.inside.table.keys in
    let name = c.args.name.now in
    let before : Table = table_in c.self.inside.language c.self.inside.stacks (entries_of keys) in
    ap (λ (k : Kept). with_found name None (table_of k)) (sym c.self.view_is)
    ∙ found-none name before
    ∙ removed c.self.inside.language c.self.inside.stacks keys c.swap_remove.new.self.keys name (found (entries_of keys) name) c.swap_remove.result
    (found-any name keys ∙ sym c.swap_remove.ensures.found) (updates c) c.swap_remove.ensures.unchanged c.swap_remove.ensures.len

pub invariant_of-self : goal.invariant_of-self
invariant_of-self c = (
  slots-removed c.self.inside.slots.items (entries_of c.self.inside.table.keys) (entries_of c.swap_remove.new.self.keys) c.args.name.now (updates c) c.self.invariant.0,
  c.swap_remove.ensures.unique,
)
