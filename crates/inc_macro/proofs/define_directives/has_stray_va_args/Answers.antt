use Rattle.std.proofs.Common.{◌≡◌, ◌∙◌, ◌&&◌, true, false, not, ap, sym, bytes_eq}
use Rattle.std.specs.List.{list_any}
use Rattle.inc_macro.specs.Macros.{has_variable, va_args}
use Rattle.inc_macro.specs.Views.{spellings_in}
use Rattle.inc_macro.proofs.TokenTexts.{any_text}
use Rattle.inc_macro.proofs.define_directives.has_stray_va_args.Goals as goal

pub returns-then-is_gnu : goal.returns-then-is_gnu
returns-then-is_gnu c =
    ap (λ g. not g && (list_any (bytes_eq va_args) (spellings_in c.args.tokens.now) && not (has_variable c.args.params.now))) (sym c.if-is_gnu.true ∙ c.is_gnu.ensures)

pub returns-then-any_va_args : goal.returns-then-any_va_args
returns-then-any_va_args c =
    let any : true ≡ list_any (bytes_eq va_args) (spellings_in c.args.tokens.now) =
    sym c.if-any_va_args.true ∙ c.any_va_args.ensures ∙ any_text (bytes_eq va_args) c.args.tokens.now in
    ap not c.has_variable.ensures ∙ ap (λ t. t && not (has_variable c.args.params.now)) any
    ∙ ap (λ g. not g && (list_any (bytes_eq va_args) (spellings_in c.args.tokens.now) && not (has_variable c.args.params.now))) (sym c.if-is_gnu.false ∙ c.is_gnu.ensures)

pub returns-else-any_va_args : goal.returns-else-any_va_args
returns-else-any_va_args c =
    let any : false ≡ list_any (bytes_eq va_args) (spellings_in c.args.tokens.now) =
    sym c.if-any_va_args.false ∙ c.any_va_args.ensures ∙ any_text (bytes_eq va_args) c.args.tokens.now in
    c.if-any_va_args.false ∙ ap (λ t. t && not (has_variable c.args.params.now)) any
    ∙ ap (λ g. not g && (list_any (bytes_eq va_args) (spellings_in c.args.tokens.now) && not (has_variable c.args.params.now))) (sym c.if-is_gnu.false ∙ c.is_gnu.ensures)
