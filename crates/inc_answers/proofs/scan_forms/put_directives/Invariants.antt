use Rattle.std.proofs.Common.{◌≡◌, ◌++◌, length, map}
use Rattle.inc_directive.specs.Parts.{inclusions_in}
use Rattle.inc_answers.specs.JsonTexts.{items_text}
use Rattle.inc_answers.specs.ScanForms.{directive_item}
use Rattle.inc_answers.proofs.JoinedTexts.{items_from}
use Rattle.inc_answers.proofs.scan_forms.put_directives.Given as goal

-- the directives that are left make the list
abbrev pub invariant-loop-directive : goal.invariant-loop-directive
invariant-loop-directive l =
    l.text.items ++ items_from l.place (map (directive_item l.path) l.left)
    ≡ l.initial.text.items ++ items_text (map (directive_item l.path) (inclusions_in l.found))

abbrev pub decreases-loop-directive : goal.decreases-loop-directive
decreases-loop-directive l = length l.left
