use Rattle.std.proofs.Common.{◌≡◌, ◌≤◌, map, take}
use Rattle.std.specs.Prelude.{count_by}
use Rattle.inc_rules.specs.Judging.{is_broken}
use Rattle.inc_rules.specs.Views.{seen_judged}
use Rattle.inc_answers.proofs.rules_document.broken_count.Given as goal

-- those so far
abbrev pub invariant-loop-rule : goal.invariant-loop-rule
invariant-loop-rule l = record {
  count : l.count ≡ count_by is_broken (map seen_judged (take l.rule-index l.judged));
  few : l.count ≤ l.rule-index;
}
