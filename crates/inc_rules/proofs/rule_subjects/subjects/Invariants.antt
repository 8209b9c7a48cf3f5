use Rattle.std.proofs.Common.{◌≡◌, ◌++◌, drop, filter, map}
use Rattle.std.specs.List.{list_any}
use Rattle.inc_rules.specs.Rules.{is_left}
use Rattle.inc_rules.specs.Sides.{sides_of}
use Rattle.inc_rules.specs.Views.{seen_rule}
use Rattle.inc_rules.proofs.rule_subjects.subjects.Given as goal

-- the paths so far, and those among the ones that are left, are all
abbrev pub invariant-loop-place : goal.invariant-loop-place
invariant-loop-place l = record {
  same : l.sides.items ≡ map sides_of (map seen_rule l.rules);
  paths : filter (λ p. list_any (λ r. is_left r p) (map seen_rule l.rules)) l.project.paths
      ≡ map (λ p. p.now) l.paths.items ++ filter (λ p. list_any (λ r. is_left r p) (map seen_rule l.rules)) (drop l.place l.project.paths);
}
