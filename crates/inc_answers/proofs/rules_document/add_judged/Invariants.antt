use Rattle.std.proofs.Common.{◌≡◌, ◌++◌, map, take}
use Rattle.std.specs.Prelude.{flat_map}
use Rattle.inc_answers.specs.RulesDocument.{judged_blocks}
use Rattle.inc_rules.specs.Views.{seen_judged}
use Rattle.inc_answers.proofs.rules_document.add_judged.Given as goal

-- those so far are added
abbrev pub invariant-loop-rule : goal.invariant-loop-rule
invariant-loop-rule l = l.document ≡ l.initial.document ++ flat_map (judged_blocks l.name l.project l.graph) (map seen_judged (take l.rule-index l.judged))
