use Rattle.std.proofs.Common.{◌∙◌, ◌+◌, ◌||◌, ap, sym, drop, arith}
use Rattle.std.specs.List.{list_any}
use Rattle.std.proofs.lemmas.List.{drop_all}
use Rattle.inc_macro.specs.Roles.{roles_of}
use Rattle.inc_expand.specs.Optionals.{is_optional_role}
use Rattle.inc_expand.proofs.ElementSteps.{roles-count}
use Rattle.inc_expand.proofs.OptionalRuns.{any-here}
use Rattle.inc_expand.proofs.optionals.has_optional.Goals as goal

pub returns-then-is_optional_role : goal.returns-then-is_optional_role
returns-then-is_optional_role c =
    let rest = list_any is_optional_role (drop (c.loop-i.i + 1) (roles_of c.args.definition.now)) in
    sym (any-here (roles_of c.args.definition.now) c.loop-i.i c.role.result c.is_optional_role.result c.role.ensures c.is_optional_role.ensures c.loop-i.invariant
    ∙ ap (λ b. b || rest) c.if-is_optional_role.true)

pub loop-i-preserved : goal.loop-i-preserved
loop-i-preserved c =
    let rest = list_any is_optional_role (drop (c.loop-i.i + 1) (roles_of c.args.definition.now)) in
    any-here (roles_of c.args.definition.now) c.loop-i.i c.role.result c.is_optional_role.result c.role.ensures c.is_optional_role.ensures c.loop-i.invariant
    ∙ ap (λ b. b || rest) c.if-is_optional_role.false

pub returns : goal.returns
returns c =
    sym (c.loop-i.invariant
    ∙ ap (list_any is_optional_role) (drop_all c.loop-i.i (roles_of c.args.definition.now) (omega (arith, c.loop-i-test.false, c.body_len-i-end.ensures, roles-count c.args.definition.now))))
