use Rattle.std.proofs.Common.{◌≡◌, ◌++◌, drop, map}
use Rattle.inc_rules.specs.Sides.{sides_of}
use Rattle.inc_rules.specs.Views.{seen_rule}
use Rattle.inc_rules.proofs.rule_subjects.sides_of_all.Given as goal

-- the sides so far, and those of the rules that are left, are all
abbrev pub invariant-loop-rule : goal.invariant-loop-rule
invariant-loop-rule l = map sides_of (map seen_rule l.rules) ≡ l.sides.items ++ map sides_of (map seen_rule (drop l.rule-index l.rules))
