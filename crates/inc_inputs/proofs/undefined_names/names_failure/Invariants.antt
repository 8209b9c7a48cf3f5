use Rattle.std.proofs.Common.{◌≡◌, map}
use Rattle.inc_inputs.specs.UndefinedNames.{names_report}
use Rattle.inc_inputs.proofs.NameReports.{names_left}
use Rattle.inc_inputs.proofs.undefined_names.names_failure.Given as goal

-- nothing is to be reported of those before
abbrev pub invariant-loop-name : goal.invariant-loop-name
invariant-loop-name l = names_left (λ n. n.now) l.language l.names l.name-index ≡ names_report l.language (map (λ n. n.now) l.names)
