use Rattle.std.proofs.Common.{◌≡◌, ◌∙◌, ℕ, List, ap, sym, position, bytes_eq, Some, None}
use Rattle.inc_macro.specs.Macros.{Params, parameter_names}
use Rattle.inc_macro.proofs.Positions.{position-variable}
use Rattle.inc_macro.proofs.parameters.Parameters.place_of.Goals as goal

pub returns-in-None : goal.returns-in-None
returns-in-None c =
    let names : List (List ℕ) = c.self.inside.names in
    let wanted : List ℕ = c.args.name.now in
    let absent : position (bytes_eq wanted) names ≡ None = sym c.in-None.ensures.place in
    ap (λ (n : ℕ). Some n) c.len.ensures
    ∙ sym (position-variable wanted names c.self.inside.variable absent (sym c.is_called.ensures ∙ c.if-is_called.true))
    ∙ ap (λ (p : Params). position (bytes_eq wanted) (parameter_names (Some p))) c.self.view_is
