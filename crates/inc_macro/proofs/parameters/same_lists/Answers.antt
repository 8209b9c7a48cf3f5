use Rattle.std.proofs.Common.{◌∙◌, ◌&&◌, ap, sym, Some}
use Rattle.inc_macro.specs.Macros.{Params, same_params, same_variables}
use Rattle.inc_macro.proofs.parameters.same_lists.Goals as goal

pub returns-then-same : goal.returns-then-same
returns-then-same c =
    let old : Params = record { names = c.old.inside.names; variable = c.old.inside.variable } in
    let new : Params = record { names = c.new.inside.names; variable = c.new.inside.variable } in
    c.same_variables.ensures
    ∙ ap (λ t. t && same_variables old.variable new.variable) (sym c.if-same.true ∙ c.same.ensures)
    ∙ ap (λ (p : Params). same_params (Some p) (Some new)) c.old.view_is
    ∙ ap (λ (p : Params). same_params (Some c.args.old.now) (Some p)) c.new.view_is

pub returns-else-same : goal.returns-else-same
returns-else-same c =
    let old : Params = record { names = c.old.inside.names; variable = c.old.inside.variable } in
    let new : Params = record { names = c.new.inside.names; variable = c.new.inside.variable } in
    c.if-same.false
    ∙ ap (λ t. t && same_variables old.variable new.variable) (sym c.if-same.false ∙ c.same.ensures)
    ∙ ap (λ (p : Params). same_params (Some p) (Some new)) c.old.view_is
    ∙ ap (λ (p : Params). same_params (Some c.args.old.now) (Some p)) c.new.view_is
