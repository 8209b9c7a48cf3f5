use Rattle.std.proofs.lemmas.List.{take_all}
use Rattle.inc_check.specs.Texts.{line_text}
use Rattle.inc_lookup.specs.Projects.{path_at}
use Rattle.inc_answers.proofs.SendingLemmas.{sends_then}
use Rattle.inc_answers.proofs.WhyLemmas.{flat_map-more}
use Rattle.inc_report.proofs.rules.send_paths.Goals as goal

pub loop-file-preserved : goal.loop-file-preserved
loop-file-preserved g c =
    let more = flat_map-more (λ f. line_text (path_at c.args.project.now f)) c.args.files.now c.loop-file.file-index _ c.loop-file-test.true c.file-item.is in
    let sent = rw c.path.ensures.path at c.send_line.ensures in
    rw more (sends_then _ _ _ _ _ c.loop-file.invariant sent)

pub returns : goal.returns
returns g c = rw (take_all c.loop-file.file-index c.args.files.now c.loop-file-test.false) at c.loop-file.invariant
