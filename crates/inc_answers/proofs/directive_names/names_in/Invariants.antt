use Rattle.std.proofs.Common.{◌≡◌, ◌++◌, length, map}
use Rattle.inc_directive.specs.Parts.{inclusions_in}
use Rattle.inc_answers.specs.NameTables.{seen_named}
use Rattle.inc_answers.proofs.directive_names.names_in.Given as goal

-- those so far, and those that are left
abbrev pub invariant-loop-directive : goal.invariant-loop-directive
invariant-loop-directive l = map seen_named l.lines.items ++ l.left ≡ inclusions_in l.found

abbrev pub decreases-loop-directive : goal.decreases-loop-directive
decreases-loop-directive l = length l.left
