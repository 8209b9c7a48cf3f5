use Rattle.std.proofs.Common.{◌≡◌, ◌++◌, drop, map}
use Rattle.std.specs.Prelude.{flat_map}
use Rattle.inc_lookup.specs.Projects.{Layout}
use Rattle.inc_rules.specs.Judging.{across_chains}
use Rattle.inc_rules.specs.Lines.{AreRight}
use Rattle.inc_rules.specs.Rules.{Rule}
use Rattle.inc_rules.proofs.direct_rules.across_chains.Given as goal

-- the chains so far, and those of the files that are left, are all
abbrev pub invariant-loop-file : goal.invariant-loop-file
invariant-loop-file l =
    (layout : Layout) (r : Rule) → AreRight l.graph.files layout r l.right
    → flat_map (across_chains layout l.graph r) l.left ≡ map (λ c. c.items) l.chains.items ++ flat_map (across_chains layout l.graph r) (drop l.file-index l.left)
