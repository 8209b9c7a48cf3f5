use Rattle.std.proofs.Common.{◌≡◌, ◌+◌, ◌≤◌, length}
use Rattle.inc_text.specs.declared.devices.TheConstants.{LONGEST_FILE}
use Rattle.inc_answers.specs.PatchText.{count_left, hunk_of}
use Rattle.inc_answers.proofs.patch.count_hunk.Given as goal

-- with the lines of the hunk that are left they are all; and no number is large
abbrev pub invariant-loop-left : goal.invariant-loop-left
invariant-loop-left l =
    (l.counts.old + length (hunk_of l.unchanged l.left) ≡ length (hunk_of l.since l.rows))
    × (l.counts.new + count_left (hunk_of l.unchanged l.left) ≡ count_left (hunk_of l.since l.rows))
    × (l.counts.old + length l.left ≤ LONGEST_FILE)
    × (l.counts.new ≤ l.counts.old)
    × (l.unchanged + length l.left ≤ LONGEST_FILE + LONGEST_FILE + 3)

abbrev pub decreases-loop-left : goal.decreases-loop-left
decreases-loop-left l = length l.left
