use Rattle.std.proofs.Common.{◌∙◌, ap, arith, length}
use Rattle.inc_macro.specs.Macros.{Definition, spellings}
use Rattle.inc_macro.specs.declared.roles.Before.TheVariants.{Neither}
use Rattle.inc_macro.proofs.RoleLists.{length-roles_from, length-spellings}
use Rattle.inc_macro.proofs.definitions.Definition.role.Goals as goal

pub role-requires : goal.role-requires
role-requires c =
    let kept = c.self.inside in
    let roles = ap length c.self.invariant ∙ length-roles_from kept.params Neither (spellings kept.body.tokens) ∙ length-spellings kept.body.tokens in
    omega (arith, c.requires, roles, ap (λ (d : Definition). length d.body) c.self.view_is)
