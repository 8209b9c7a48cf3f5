use Rattle.std.proofs.Common.{◌≡◌, List, drop, map}
use Rattle.std.specs.List.{list_any}
use Rattle.inc_rules.specs.Rules.{Rule, is_left}
use Rattle.inc_rules.specs.Sides.{sides_of}
use Rattle.inc_rules.proofs.rule_subjects.is_subject.Given as goal

-- one that is about the file is among those that are left
abbrev pub invariant-loop-index : goal.invariant-loop-index
invariant-loop-index l = record {
  same : l.sides.items ≡ l.fn.sides.items;
  left : (rules : List Rule) → l.fn.sides.items ≡ map sides_of rules → list_any (λ r. is_left r l.path) rules ≡ list_any (λ r. is_left r l.path) (drop l.index rules);
}
