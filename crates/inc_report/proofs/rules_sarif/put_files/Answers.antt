use Rattle.std.proofs.Common.{◌++◌, codes}
use Rattle.inc_report.specs.SarifViews.{seen_listed}
use Rattle.inc_report.specs.RulesSarif.{file_result}
use Rattle.inc_answers.proofs.NoteLemmas.{joined}
use Rattle.inc_answers.proofs.WhyLemmas.{flat_map-more}
use Rattle.inc_report.proofs.rules_sarif.put_files.Goals as goal

pub loop-file-preserved : goal.loop-file-preserved
loop-file-preserved c =
    let more = flat_map-more (λ f. codes "," ++ file_result c.args.project.now (seen_listed c.args.listed.now) f) c.args.files.now c.loop-file.file-index _ c.loop-file-test.true c.file-item.is in
    rw more (joined c.args.text.now.items _ _ c.loop-file.text.items c.put_file.new.text.items c.loop-file.invariant c.in_ok-put_file.ensures)
