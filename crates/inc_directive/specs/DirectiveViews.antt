-- A directive of the program as the definitions see it.
use Rattle.inc_directive.specs.FileDirectives as spec
use Rattle.inc_directive.specs.KindViews.{seen_kind}
use Rattle.inc_directive.specs.declared.walks.Directive.{Directive}

abbrev pub seen_directive : Directive → spec.Directive
seen_directive d = record { kind = seen_kind d.kind; line = d.line }
