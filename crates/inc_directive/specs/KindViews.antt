-- Kinds of lines and targets of the program as the definitions see them.
use Rattle.inc_directive.specs.declared.kinds.Target.{Target}
use Rattle.inc_directive.specs.declared.kinds.Target.TheVariants as target
use Rattle.inc_directive.specs.declared.kinds.LineKind.{LineKind}
use Rattle.inc_directive.specs.declared.kinds.LineKind.TheVariants as kind
use Rattle.inc_directive.specs.LineKinds as spec

abbrev pub seen_target : Target → spec.Target
seen_target (target.Quoted name) = spec.Quoted name.now
seen_target (target.Angled name) = spec.Angled name.now
seen_target (target.ByName name) = spec.ByName name.now
seen_target target.Computed = spec.Computed
seen_target target.Nothing = spec.Nothing

abbrev pub seen_kind : LineKind → spec.LineKind
seen_kind kind.Text = spec.Text
seen_kind (kind.Include name target) = spec.Include name (seen_target target)
seen_kind (kind.Other directive) = spec.Other directive
