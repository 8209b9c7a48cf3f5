use Rattle.std.proofs.Common.{◌≡◌, drop}
use Rattle.std.specs.List.{list_any}
use Rattle.inc_macro.specs.Roles.{roles_of}
use Rattle.inc_expand.specs.Optionals.{is_optional_role}
use Rattle.inc_expand.proofs.optionals.has_optional.Given as goal

abbrev pub invariant-loop-i : goal.invariant-loop-i
invariant-loop-i l = list_any is_optional_role (roles_of l.definition) ≡ list_any is_optional_role (drop l.i (roles_of l.definition))
