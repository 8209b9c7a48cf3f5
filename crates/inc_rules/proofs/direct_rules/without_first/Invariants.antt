use Rattle.std.proofs.Common.{◌≡◌, ◌++◌, drop, filter, not}
use Rattle.inc_lookup.specs.Projects.{Layout}
use Rattle.inc_rules.specs.Judging.{includes_first}
use Rattle.inc_rules.specs.Lines.{AreRight}
use Rattle.inc_rules.specs.Rules.{Rule}
use Rattle.inc_rules.proofs.direct_rules.without_first.Given as goal

-- the files so far, and those among the ones that are left, are all
abbrev pub invariant-loop-file : goal.invariant-loop-file
invariant-loop-file l =
    (layout : Layout) (r : Rule) → AreRight l.graph.files layout r l.right
    → filter (λ f. not (includes_first layout l.graph r f)) l.left ≡ l.files.items ++ filter (λ f. not (includes_first layout l.graph r f)) (drop l.file-index l.left)
