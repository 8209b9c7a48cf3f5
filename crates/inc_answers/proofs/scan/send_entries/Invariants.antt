use Rattle.std.proofs.Common.{◌≡◌, ◌++◌, List, ℕ, length}
use Rattle.std.specs.List.{concat}
use Rattle.inc_directive.specs.Parts.{inclusions_in}
use Rattle.inc_answers.specs.ScanText.{entries}
use Rattle.inc_answers.specs.Sending.{Sends}
use Rattle.inc_answers.proofs.scan.send_entries.Given as goal

-- the text up to the directives that are left is sent
abbrev pub invariant-loop-directive : goal.invariant-loop-directive
invariant-loop-directive g l = (sent : List ℕ)
    × Sends l.initial.out l.out sent
    × (sent ++ concat (entries l.left) ≡ concat (entries (inclusions_in l.found)))

abbrev pub decreases-loop-directive : goal.decreases-loop-directive
decreases-loop-directive g l = length l.left
