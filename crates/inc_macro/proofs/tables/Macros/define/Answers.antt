use Rattle.std.proofs.Common.{◌≡◌, ◌∙◌, ap, sym, map, List, Ok, None}
use Rattle.inc_token.specs.Views.{seen}
use Rattle.inc_token.specs.TokenLines.{Tok}
use Rattle.inc_macro.specs.Macros.{Definition, Table, definition_in, with_new}
use Rattle.inc_macro.specs.Tables.{Kept, found, table_of}
use Rattle.inc_macro.proofs.DefinitionSteps.{define-new}
use Rattle.inc_macro.proofs.tables.Macros.define.Goals as goal

-- the name had no definition
none : (c : goal.In_ok-add) → found c.args.self.now.entries c.in_ok-definition.definition.name ≡ None
none c = ap (found c.args.self.now.entries) (sym c.name-spelling.ensures) ∙ sym c.in_default.ensures

-- the definition in the table's language
defined_in : (spoken : Kept) (old : Kept) → spoken ≡ old → (ts : List Tok) (d : Definition) → definition_in spoken.language ts ≡ Ok d → definition_in old.language ts ≡ Ok d
defined_in spoken old same ts d is = ap (λ (k : Kept). definition_in k.language ts) (sym same) ∙ is

pub returns-clause-done : goal.returns-clause-done
returns-clause-done c =
    let d = c.in_ok-definition.definition in
    define-new (map seen c.args.tokens.now) (table_of c.args.self.now) d (defined_in _ _ c.self.view_is (map seen c.args.tokens.now) d c.in_ok-definition.ensures.done) (none c)
    ∙ ap (λ (e : Definition). Ok (with_new e (table_of c.args.self.now))) (sym c.new-named.ensures)
    ∙ ap (λ (t : Table). Ok t) c.in_ok-add.ensures.done
