use Rattle.std.proofs.Common.{◌≡◌, ◌++◌, take}
use Rattle.inc_answers.specs.RulesDocument.{lacking_blocks}
use Rattle.inc_rules.specs.Views.{seen_rule}
use Rattle.inc_answers.proofs.rules_document.add_lacking.Given as goal

-- those so far are added
abbrev pub invariant-loop-file : goal.invariant-loop-file
invariant-loop-file l = l.document ≡ l.initial.document ++ lacking_blocks l.project (seen_rule l.rule) (take l.file-index l.files)
