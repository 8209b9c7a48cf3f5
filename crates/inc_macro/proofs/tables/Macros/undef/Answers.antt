use Rattle.std.proofs.Common.{map, bytes_eq, None, ◌≡◌, ◌∙◌, ap, sym, cond, Ok, Bool, is_some, Result, List, ℕ}
use Rattle.inc_token.specs.Views.{seen}
use Rattle.inc_macro.specs.Macros.{Table, name_at, without}
use Rattle.inc_macro.specs.Results.{◌>>=◌}
use Rattle.inc_macro.specs.Tables.{Kept, entries_of, found, table_of}
use Rattle.inc_macro.specs.declared.faults.DefineFault.{DefineFault}
use Rattle.inc_macro.proofs.NamedEntries.{found-any, found-less}
use Rattle.inc_macro.proofs.TableSteps.{removed, slots-removed}
use Rattle.inc_macro.proofs.tables.Macros.undef.Goals as goal

-- what the names find afterwards
updates : (c : goal.After-swap_remove-removed) (q : List ℕ)
    → found (entries_of c.swap_remove-removed.new.self.keys) q ≡ cond (bytes_eq c.in_ok-name.name.now q) None (found (entries_of c.self.inside.table.keys) q)
updates c = found-less c.self.inside.table.keys c.swap_remove-removed.new.self.keys c.in_ok-name.name.now c.self.invariant.1 c.swap_remove-removed.ensures.keys

pub returns-clause-done : goal.returns-clause-done
returns-clause-done c =
    let old : Kept = c.args.self.now in
    let kept : Kept = record { language = c.self.inside.language; entries = entries_of c.self.inside.table.keys; stacks = c.self.inside.stacks } in
    let name : List ℕ = c.in_ok-name.name.now in
    let was = c.swap_remove-removed.result in
    let is : is_some (found kept.entries name) ≡ was = found-any name c.self.inside.table.keys ∙ sym c.swap_remove-removed.ensures.found in
    let answer : Kept → Result (Bool × Table) DefineFault = λ k. Ok (is_some (found k.entries name), without name (table_of k) (found k.entries name)) in
    ap (λ (n : Result (List ℕ) DefineFault). n >>= (λ m. Ok (is_some (found old.entries m), without m (table_of old) (found old.entries m))))
    (ap (λ (k : Kept). name_at k.language (map seen c.args.tokens.now)) (sym c.self.view_is) ∙ c.in_ok-name.ensures.name)
    ∙ ap answer (sym c.self.view_is)
    ∙ ap (λ (b : Bool). Ok (b, without name (table_of kept) (found kept.entries name))) is
    ∙ ap (λ (t : Table). Ok (was, t)) (removed c.self.inside.language c.self.inside.stacks c.self.inside.table.keys c.swap_remove-removed.new.self.keys name (found kept.entries name) was is (updates c) c.swap_remove-removed.ensures.unchanged c.swap_remove-removed.ensures.len)

pub invariant_of-self : goal.invariant_of-self
invariant_of-self c = (
  slots-removed c.self.inside.slots.items (entries_of c.self.inside.table.keys) (entries_of c.swap_remove-removed.new.self.keys) c.in_ok-name.name.now (updates c) c.self.invariant.0,
  c.swap_remove-removed.ensures.unique,
)
