use Rattle.std.proofs.Common.{◌≡◌, ◌∙◌, ◌++◌, ◌∷◌, [], ap, sym, cond, ℕ, List, Some, None, bytes_eq}
use Rattle.inc_macro.specs.Macros.{with_new}
use Rattle.inc_macro.specs.NameSlots.{is_taken, slot_of}
use Rattle.inc_macro.specs.Tables.{Kept, entries_of, found, table_of}
use Rattle.inc_macro.proofs.NamedEntries.{found-more, inserted, length-more}
use Rattle.inc_macro.proofs.TableSteps.{added, slots-added, slots-kept}
use Rattle.inc_macro.proofs.tables.Macros.add.Goals as goal

-- the name had no definition
absent : (c : goal.In_ok-insert) → found (entries_of c.self.inside.table.keys) c.args.definition.name ≡ None
absent c = ap (λ (k : Kept). found k.entries c.args.definition.name) c.self.view_is ∙ c.requires

-- so that its definition goes last
last : (c : goal.In_ok-insert) → c.insert.new.self.keys ≡ c.self.inside.table.keys ++ c.args.definition ∷ []
last c = inserted c.self.inside.table.keys c.insert.new.self.keys c.args.definition (absent c) c.in_ok-insert.ensures.keys

updates : (c : goal.In_ok-insert) (q : List ℕ)
    → found (entries_of c.insert.new.self.keys) q ≡ cond (bytes_eq c.args.definition.name q) (Some c.args.definition) (found (entries_of c.self.inside.table.keys) q)
updates c = found-more c.self.inside.table.keys c.insert.new.self.keys c.args.definition (absent c) (last c)

pub returns-clause-done : goal.returns-clause-done
returns-clause-done c =
    let d = c.args.definition in
    ap (λ (k : Kept). with_new d (table_of k)) (sym c.self.view_is)
    ∙ added c.self.inside.language c.self.inside.stacks (entries_of c.self.inside.table.keys) (entries_of c.insert.new.self.keys) d (updates c)
    (length-more c.self.inside.table.keys c.insert.new.self.keys d (last c))

---- the slots

pub invariant_of-self : goal.invariant_of-self
invariant_of-self c =
    (slots-kept c.self.inside.slots.items c.take_slot.new.slots.items (entries_of c.self.inside.table.keys) c.take_slot.ensures.kept c.self.invariant.0, c.self.invariant.1)

pub invariant_of-self-2 : goal.invariant_of-self-2
invariant_of-self-2 c =
    let slot = ap slot_of (sym (c.name.ensures ∙ ap (λ d. d.name) c.definition-2.ensures)) ∙ sym c.slot_of-slot.ensures.slot in (
      slots-added c.self.inside.slots.items c.take_slot.new.slots.items (entries_of c.self.inside.table.keys) (entries_of c.insert.new.self.keys) c.args.definition.name
          c.args.definition (updates c) c.take_slot.ensures.kept
          (ap (is_taken c.take_slot.new.slots.items) slot ∙ c.in_ok-take_slot.ensures.taken)
          c.self.invariant.0,
      c.insert.ensures.unique,
    )
