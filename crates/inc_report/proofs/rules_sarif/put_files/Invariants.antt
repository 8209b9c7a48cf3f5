use Rattle.std.proofs.Common.{◌≡◌, ◌++◌, codes, take}
use Rattle.std.specs.Prelude.{flat_map}
use Rattle.inc_report.specs.SarifViews.{seen_listed}
use Rattle.inc_report.specs.RulesSarif.{file_result}
use Rattle.inc_report.proofs.rules_sarif.put_files.Given as goal

-- those so far are added
abbrev pub invariant-loop-file : goal.invariant-loop-file
invariant-loop-file l = l.text.items ≡ l.initial.text.items ++ flat_map (λ f. codes "," ++ file_result l.project (seen_listed l.listed) f) (take l.file-index l.files)
