use Rattle.std.proofs.Common.{◌≡◌, ◌∙◌, ap, sym, subst, cond, ℕ, List, None, bytes_eq}
use Rattle.std.specs.Prelude.{IfSome}
use Rattle.inc_macro.specs.Macros.{Definition, with_new}
use Rattle.inc_macro.specs.Tables.{Kept, entries_of, found, table_of}
use Rattle.inc_macro.proofs.NamedEntries.{found-find, found-less}
use Rattle.inc_macro.proofs.TableSteps.{slots-removed, table_in}
use Rattle.inc_macro.proofs.TakenDefinitions.{absent, again, named}
use Rattle.inc_macro.proofs.tables.Macros.take.Goals as goal

-- what is taken
there : (c : goal.After-swap_take) → c.swap_take.result ≡ found (entries_of c.self.inside.table.keys) c.args.name.now
there c = c.swap_take.ensures.key ∙ sym (found-find c.args.name.now c.self.inside.table.keys)

-- what the names find afterwards
updates : (c : goal.After-swap_take) (q : List ℕ)
    → found (entries_of c.swap_take.new.self.keys) q ≡ cond (bytes_eq c.args.name.now q) None (found (entries_of c.self.inside.table.keys) q)
updates c = found-less c.self.inside.table.keys c.swap_take.new.self.keys c.args.name.now c.self.invariant.1 c.swap_take.ensures.keys

pub invariant_of-self : goal.invariant_of-self
invariant_of-self c = (
  slots-removed c.self.inside.slots.items (entries_of c.self.inside.table.keys) (entries_of c.swap_take.new.self.keys) c.args.name.now (updates c) c.self.invariant.0,
  c.swap_take.ensures.unique,
)

pub returns-clause-definition : goal.returns-clause-definition
returns-clause-definition c = there c ∙ ap (λ (k : Kept). found k.entries c.args.name.now) c.self.view_is

pub returns-clause-named : goal.returns-clause-named
returns-clause-named c = named c.args.name.now c.self.inside.table.keys c.swap_take.result (there c)

pub returns-clause-rest : goal.returns-clause-rest
returns-clause-rest c =
    let l = c.self.inside.language in
    let new = entries_of c.swap_take.new.self.keys in
    let stacks = c.self.inside.stacks in
    subst (λ (k : Kept). IfSome c.swap_take.result (λ (d : Definition). with_new d (table_in l stacks new) ≡ table_of k)) c.self.view_is
    (again l stacks c.self.inside.table.keys c.swap_take.new.self.keys c.args.name.now (updates c) c.swap_take.result (there c) c.swap_take.ensures.len)

pub returns-clause-absent : goal.returns-clause-absent
returns-clause-absent c =
    absent c.self.inside.language c.self.inside.stacks c.self.inside.table.keys c.swap_take.new.self.keys c.args.name.now (updates c) c.swap_take.result (there c)
