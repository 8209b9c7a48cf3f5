use Rattle.std.proofs.Common.{◌≡◌, length, take}
use Rattle.inc_answers.proofs.CostGroupLemmas.{AreOpen}
use Rattle.inc_answers.proofs.cost_groups.open_flags.Given as goal

-- the directives so far have flagged their files
abbrev pub invariant-loop-blocker : goal.invariant-loop-blocker
invariant-loop-blocker l = AreOpen (take l.blocker-index l.blockers) l.among l.flags.items × (length l.flags.items ≡ length l.among)
