use Rattle.std.proofs.Common.{◌∙◌, ◌+◌, ◌&&◌, ◌||◌, not, ap, sym, drop, Some}
use Rattle.inc_macro.specs.Macros.{has_lone_hash, operand_names, parameter_follows}
use Rattle.inc_macro.specs.Views.{spellings_in}
use Rattle.inc_macro.proofs.TokenTexts.{texts_at}
use Rattle.inc_macro.proofs.define_directives.is_lone_hash.Goals as goal

pub returns-then-is_hash : goal.returns-then-is_hash
returns-then-is_hash c =
    let names = operand_names (Some c.args.params.now) in
    let rest = drop (c.args.at + 1) (spellings_in c.args.tokens.now) in
    ap (has_lone_hash names) (texts_at c.args.tokens.now c.args.at _ c.requires)
    ∙ ap (λ x. (x && not (parameter_follows names rest)) || has_lone_hash names rest) (sym c.is_hash.ensures ∙ c.if-is_hash.true)
    ∙ ap (λ f. not f || has_lone_hash names rest) (sym c.operand_follows.ensures)

pub returns-else-is_hash : goal.returns-else-is_hash
returns-else-is_hash c =
    let names = operand_names (Some c.args.params.now) in
    let rest = drop (c.args.at + 1) (spellings_in c.args.tokens.now) in
    ap (has_lone_hash names) (texts_at c.args.tokens.now c.args.at _ c.requires)
    ∙ ap (λ x. (x && not (parameter_follows names rest)) || has_lone_hash names rest) (sym c.is_hash.ensures ∙ c.if-is_hash.false)
    ∙ ap (λ x. x || has_lone_hash names rest) (sym c.if-is_hash.false)
