use Rattle.std.proofs.Common.{◌≡◌, ◌+◌, ◌≤◌, ◌++◌, ℕ, List, length}
use Rattle.inc_text.specs.declared.devices.TheConstants.{LONGEST_FILE}
use Rattle.inc_answers.specs.PatchText.{first_place, hunks_from}
use Rattle.inc_answers.specs.Sending.{Sends}
use Rattle.inc_answers.proofs.patch.send_hunks.Given as goal

-- what is sent and the hunks from the next line on are all hunks; and no number is large
abbrev pub invariant-loop-row : goal.invariant-loop-row
invariant-loop-row g l =
    ((sent : List ℕ) × Sends l.initial.out l.out sent × (sent ++ hunks_from l.place l.left ≡ hunks_from first_place l.rows))
    × (l.place.old + length l.left ≤ LONGEST_FILE + 1)
    × (l.place.new ≤ l.place.old)
    × (l.place.since + length l.left ≤ LONGEST_FILE + 3)

abbrev pub decreases-loop-row : goal.decreases-loop-row
decreases-loop-row g l = length l.left
