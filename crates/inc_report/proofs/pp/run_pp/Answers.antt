use Rattle.inc_report.specs.PpSteps.{Common}
use Rattle.inc_answers.specs.Terms.{named_directives}
use Rattle.inc_report.proofs.PpSections.{wrote-none}
use Rattle.inc_report.proofs.pp.run_pp.Goals as goal

pub returns-in-Err-clause-written : goal.returns-in-Err-clause-written
returns-in-Err-clause-written g c =
    let common : Common = record { layout = c.args.project.now; words = c.args.question.now.words; settings = c.args.question.now.settings; without = named_directives c.args.project.now c.args.question.now.without } in
    rw c.in-Err.ensures.sink (wrote-none g.S.Sources.gives c.args.sources.now common _ _ _ _ c.requires)

pub returns-clause-written : goal.returns-clause-written
returns-clause-written g c =
    rw (c.into_sink.ensures.written, c.into_sink.ensures.failed) (rw c.in-Ok.ensures.output at c.write_all-ended.ensures.written)

pub returns-clause-unread : goal.returns-clause-unread
returns-clause-unread g c = rw c.into_sink.ensures.written (rw c.in-Ok.ensures.output at c.write_all-ended.ensures.unread)
