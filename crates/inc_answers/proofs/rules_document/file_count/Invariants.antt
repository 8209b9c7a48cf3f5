use Rattle.std.proofs.Common.{◌≡◌, length, map, take}
use Rattle.inc_answers.specs.RulesDocument.{all_files}
use Rattle.inc_rules.specs.Views.{seen_judged}
use Rattle.inc_answers.proofs.rules_document.file_count.Given as goal

-- those of the rules so far
abbrev pub invariant-loop-rule : goal.invariant-loop-rule
invariant-loop-rule l = l.count ≡ length (all_files (map seen_judged (take l.rule-index l.judged)))
