use Rattle.std.proofs.Common.{bytes_eq, ◌∙◌, ap, sym, Some}
use Rattle.inc_macro.specs.Tables.{Kept, found}
use Rattle.inc_macro.proofs.NamedEntries.{found-at, found-find}
use Rattle.inc_macro.proofs.tables.Macros.find.Goals as goal

pub returns-then-eq : goal.returns-then-eq
returns-then-eq c =
    let keys = c.self.inside.table.keys in
    ap Some c.definition-then-eq.ensures
    ∙ sym (found-at c.args.name.now keys c.place_in-place.result c.in-Some.named.now c.self.invariant.1 (sym c.in-Some.ensures.key)
    (ap (λ n. bytes_eq n c.args.name.now) (sym (c.name.ensures ∙ ap (λ d. d.name) c.definition.ensures)) ∙ sym c.eq.ensures ∙ c.if-eq.true))
    ∙ ap (λ (k : Kept). found k.entries c.args.name.now) c.self.view_is

pub returns-in-Some-get : goal.returns-in-Some-get
returns-in-Some-get c =
    ap Some c.definition-in-Some-get.ensures ∙ c.in-Some-get.ensures.key ∙ sym (found-find c.args.name.now c.self.inside.table.keys)
    ∙ ap (λ (k : Kept). found k.entries c.args.name.now) c.self.view_is

pub returns-in-None : goal.returns-in-None
returns-in-None c =
    c.in-None.ensures.key ∙ sym (found-find c.args.name.now c.self.inside.table.keys) ∙ ap (λ (k : Kept). found k.entries c.args.name.now) c.self.view_is
