use Rattle.std.proofs.Common.{◌≡◌, ◌+◌, ◌-◌, ◌≤◌, length, map}
use Rattle.std.specs.Prelude.{◌==◌}
use Rattle.inc_text.specs.Ascii.{line_feed}
use Rattle.inc_rules.specs.Rules.{rules_from, rules_of, with_more}
use Rattle.inc_rules.specs.Views.{seen_rule}
use Rattle.inc_rules.proofs.SplitLemmas.{parts_behind}
use Rattle.inc_rules.proofs.reading.read_rules.Given as goal

-- the rules so far, and those of the lines that are left, are all
abbrev pub invariant-loop-at : goal.invariant-loop-at
invariant-loop-at l = record {
  within : l.at ≤ length l.text + 1;
  lines : l.line ≤ l.at + 1;
  rules : rules_of l.text ≡ with_more (map seen_rule l.rules.items) (rules_from l.line (parts_behind (λ b. b == line_feed) l.at l.text));
}

abbrev pub decreases-loop-at : goal.decreases-loop-at
decreases-loop-at l = length l.text + 1 - l.at
