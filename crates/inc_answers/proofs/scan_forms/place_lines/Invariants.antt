use Rattle.std.proofs.Common.{◌≡◌, ◌++◌, length}
use Rattle.inc_directive.specs.Parts.{inclusions_in}
use Rattle.inc_answers.specs.ScanForms.{place_lines}
use Rattle.inc_answers.proofs.scan_forms.place_lines.Given as goal

-- the lines so far, and those of the directives that are left
abbrev pub invariant-loop-directive : goal.invariant-loop-directive
invariant-loop-directive l = l.text.items ++ place_lines l.path l.left ≡ place_lines l.path (inclusions_in l.found)

abbrev pub decreases-loop-directive : goal.decreases-loop-directive
decreases-loop-directive l = length l.left
