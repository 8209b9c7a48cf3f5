use Rattle.std.proofs.Common.{◌≡◌, ◌++◌, drop, filter}
use Rattle.inc_lookup.specs.Projects.{path_at}
use Rattle.inc_rules.specs.Rules.{Rule, is_left}
use Rattle.inc_rules.specs.Sides.{sides_of}
use Rattle.inc_rules.proofs.rule_files.left_files.Given as goal

-- the files so far, and those among the ones that are left, are all
abbrev pub invariant-loop-file : goal.invariant-loop-file
invariant-loop-file l = record {
  same : l.sides ≡ l.fn.sides;
  files : (r : Rule) → l.fn.sides ≡ sides_of r
      → filter (λ f. is_left r (path_at l.project f)) l.files ≡ l.left.items ++ filter (λ f. is_left r (path_at l.project f)) (drop l.file-index l.files);
}
